-- The name that was read is the text, where it is one.
use Rattle.std.proofs.Common.{◌≡◌, ℕ, Option, Some, None, refl, ap, List}
use Rattle.std.specs.Prelude.{SomeIff}
use Rattle.std.proofs.lemmas.Bool.{false_from_ne_true}
use Rattle.fints_script_fields.specs.Names.{IsName, is_name}
use Rattle.fints_script_rows.specs.RowNames.{parsed}

pub is_parsed : (o : Option (List ℕ)) (text : List ℕ) → SomeIff o (IsName text) text → o ≡ parsed text
is_parsed None text h = rw (false_from_ne_true (is_name text) h) refl
is_parsed (Some x) text h = rw h.0 (ap Some h.1)
