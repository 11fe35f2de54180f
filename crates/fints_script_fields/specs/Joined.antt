-- The text of an element without the byte that ends it.
use Rattle.std.specs.Prelude.{ℕ, List, [], ◌∷◌, ◌++◌}
use Rattle.fints_syntax_segments.specs.declared.item.OwnedItem.{OwnedItem}
use Rattle.fints_syntax_segments.specs.Spelling.{written}

-- the written items with `:` (58) between them
abbrev pub joined : List OwnedItem → List ℕ
joined [] = []
joined (i ∷ []) = written i
joined (i ∷ j ∷ is) = written i ++ 58 ∷ joined (j ∷ is)
