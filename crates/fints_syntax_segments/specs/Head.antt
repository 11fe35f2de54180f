-- The head of a segment, by the values of its items.
use Rattle.std.specs.Prelude.{ℕ, List, [], ◌∷◌, Option, Some, None}
use Rattle.std.specs.Option.{option_and_then}
use Rattle.fints_syntax_segments.specs.Kind.{kind_from}
use Rattle.fints_syntax_segments.specs.Number.{number_in}
use Rattle.fints_syntax_segments.specs.declared.item.Head.{Head}

-- absent and empty are the same
abbrev pub reference_from : List ℕ → Option (Option ℕ)
reference_from [] = Some None
reference_from (b ∷ bytes) = option_and_then (λ n. Some (Some n)) (number_in 1 3 (b ∷ bytes))

abbrev pub head_with : List ℕ → List ℕ → List ℕ → List ℕ → Option Head
head_with id number version reference =
    option_and_then (λ i. option_and_then (λ n. option_and_then (λ v. option_and_then (λ r.
    Some (record { id = i; number = n; version = v; reference = r }))
    (reference_from reference)) (number_in 1 3 version)) (number_in 1 3 number)) (kind_from id)

-- identifier, number, version and perhaps a reference, and no further item
abbrev pub head_from : List (List ℕ) → Option Head
head_from (i ∷ n ∷ v ∷ []) = head_with i n v []
head_from (i ∷ n ∷ v ∷ r ∷ []) = head_with i n v r
head_from _ = None
