-- What a table has at its keys. What only private contracts and proofs use comes last, under a heading.
use Rattle.std.specs.Prelude.{codes, ℕ, Bool, false, List, Option, Some, None, option_and_then}
use Rattle.std.specs.Str.{bytes_eq}
use Rattle.toml.specs.Data.{Data, string, table, Members, get_member, as_str}

-- the text at a key, where it holds a text
abbrev pub text_at : List ℕ → Members → Option (List ℕ)
text_at key ms = option_and_then as_str (get_member key ms)

-- there is a value, and it is this text
abbrev pub holds_text : List ℕ → Option Data → Bool
holds_text text (Some (string other)) = bytes_eq text other
holds_text text _ = false

-- the entry is a table with this name
abbrev pub is_called : List ℕ → Data → Bool
is_called name (table ms) = holds_text name (get_member (codes "name") ms)
is_called name _ = false

-- ---- of private contracts and proofs only

-- the name of a row, where it is a table that has one
abbrev pub name_in : Data → Option (List ℕ)
name_in (table ms) = text_at (codes "name") ms
name_in _ = None
