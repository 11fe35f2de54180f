-- The first items of elements 2 and 3.
use Rattle.std.proofs.Common.{◌≡◌, ◌<◌, List, [], ◌∷◌, length, drop, refl, arith}
use Rattle.std.specs.List.{AllByRecursion}
use Rattle.fints_syntax_segments.specs.Spelling.{Spelled}
use Rattle.fints_syntax_segments.specs.Segment.{segment_tokens}
use Rattle.fints_syntax.specs.Cursor.{first_of}
use Rattle.fints_syntax.specs.Places.{place_of}

pub first_two : (es : List (List Spelled)) → AllByRecursion (λ e. 0 < length e) es
    → first_of (segment_tokens (drop 1 es)) ≡ place_of es 2 1
first_two [] h = refl
first_two (e ∷ []) h = refl
first_two (e ∷ [] ∷ r) h = absurd (omega (arith, h.1.0))
first_two (e ∷ (s ∷ []) ∷ []) h = refl
first_two (e ∷ (s ∷ t ∷ ss) ∷ []) h = refl
first_two (e ∷ (s ∷ []) ∷ f ∷ r) h = refl
first_two (e ∷ (s ∷ t ∷ ss) ∷ f ∷ r) h = refl

pub first_three : (es : List (List Spelled)) → AllByRecursion (λ e. 0 < length e) es
    → first_of (segment_tokens (drop 1 (drop 1 es))) ≡ place_of es 3 1
first_three [] h = refl
first_three (e ∷ es) h = first_two es h.1
