-- How long values are when they are written.
use Rattle.std.specs.Prelude.{ℕ, List, length}
use Rattle.fints_syntax_segments.specs.declared.item.OwnedItem.TheVariants.{Text, Bin}
use Rattle.fints_syntax_segments.specs.Spelling.{written}

abbrev pub text_len : List ℕ → ℕ
text_len v = length (written (Text v))

abbrev pub binary_len : List ℕ → ℕ
binary_len v = length (written (Bin v))
