-- The longest and the shortest values are admitted.
use Rattle.std.proofs.Common.{List, [], ◌∷◌, map, refl}
use Rattle.std.specs.List.{All, zip}
use Rattle.std.proofs.lemmas.List.{length-map}
use Rattle.std.proofs.lemmas.List.Elements.{All-cons, All-nil}
use Rattle.fints_script_fields.specs.FieldLaws.{longest_is_admitted, shortest_is_admitted}
use Rattle.fints_script.specs.Plans.{Admits, IsChosen}
use Rattle.fints_script_rows.specs.declared.fields.NamedField.{NamedField}
use Rattle.fints_script_cases.specs.declared.values.NamedValue.{NamedValue}
use Rattle.fints_wire.specs.Choices.{longest_choice, shortest_choice, with_longest, with_shortest}

abbrev IsPair : NamedField × NamedValue → Type 0
IsPair p = IsChosen p.0 p.1

all_chosen : (f : NamedField → NamedValue) → ((x : NamedField) → IsChosen x (f x))
    → (fields : List NamedField) → All IsPair (zip fields (map f fields))
all_chosen f h [] = All-nil IsPair
all_chosen f h (x ∷ xs) = All-cons IsPair (x, f x) (zip xs (map f xs)) (h x) (all_chosen f h xs)

pub longest_admitted : (fields : List NamedField) → Admits fields (longest_choice fields)
longest_admitted fields = (length-map fields with_longest, all_chosen with_longest (λ x. (refl, longest_is_admitted x.class)) fields)

pub shortest_admitted : (fields : List NamedField) → Admits fields (shortest_choice fields)
shortest_admitted fields = (length-map fields with_shortest, all_chosen with_shortest (λ x. (refl, shortest_is_admitted x.class)) fields)
