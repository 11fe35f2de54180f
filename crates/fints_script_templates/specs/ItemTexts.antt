-- How the string of an item is read. What only private contracts and proofs use comes last, under a heading.
use Rattle.std.specs.Prelude.{ℕ, ◌==◌, if◌then◌else◌, List, [], ◌∷◌}
use Rattle.fints_script_templates.specs.declared.item_text.ItemText.{ItemText}
use Rattle.fints_script_templates.specs.declared.item_text.ItemText.TheVariants.{Reference, Hex, Literal}

-- the name of a field, hex digits, or a text
pub data Reading : Type 0 where
  reference : List ℕ → Reading
  hex : List ℕ → Reading
  literal : List ℕ → Reading

-- the first character says: `$` (36) the name of a field, `%` (37) hex digits, `=` (61) the text after it
abbrev pub reading_from : ℕ → List ℕ → Reading
reading_from first rest =
    if first == 36 then reference rest
    else if first == 37 then hex rest
    else if first == 61 then literal rest
    else literal (first ∷ rest)

abbrev pub reading_of : List ℕ → Reading
reading_of [] = literal []
reading_of (c ∷ cs) = reading_from c cs

-- ---- of private contracts and proofs only

abbrev pub read_as : ItemText → Reading
read_as (Reference name) = reference name.now
read_as (Hex digits) = hex digits.now
read_as (Literal text) = literal text.now
