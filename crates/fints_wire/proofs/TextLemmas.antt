-- The text of segments, one by one.
use Rattle.std.proofs.Common.{◌≡◌, ℕ, zero, suc, ◌+◌, ◌<◌, List, [], ◌∷◌, ◌++◌, length, get_or, drop, Some, ap, sym, ◌∙◌, arith, append_assoc}
use Rattle.std.specs.List.{slice_get}
use Rattle.std.proofs.lemmas.List.{drop_more, length-append}
use Rattle.fints_syntax_segments.specs.Written.{written_segment}
use Rattle.fints_script.specs.Scripts.{ScriptValue}
use Rattle.fints_script.specs.Steps.{StepValue}
use Rattle.fints_script_templates.specs.declared.template.Template.{Template}
use Rattle.fints_wire.specs.Filling.{FillingValue, filled_segment, filled_segments}
use Rattle.fints_wire.specs.Messages.{first_segment, later_segments, message_size, message_with, segments_text}

pub moves : (out new x y z whole : List ℕ) → x ≡ y ++ z → out ++ x ≡ whole → new ≡ out ++ y → new ++ z ≡ whole
moves out new x y z whole e so_far n = rw n (append_assoc out y z ∙ ap (λ (w : List ℕ). out ++ w) (sym e) ∙ so_far)

-- the segments from a place on are the one there and those after it
pub segments_more : (filling : FillingValue) (i : ℕ) (ts : List Template) (t : Template) → i < length ts
    → segments_text (filled_segments filling (i + 2) (drop i ts)) ≡ written_segment
    (filled_segment filling (i + 2) (get_or ts i t)) ++ segments_text
    (filled_segments filling (i + 1 + 2) (drop (i + 1) ts))
segments_more filling i ts t lt =
    let next : i + 2 + 1 ≡ i + 1 + 2 = omega arith in
    let here : List ℕ = written_segment (filled_segment filling (i + 2) (get_or ts i t)) in
    ap (λ (x : List Template). segments_text (filled_segments filling (i + 2) x)) (drop_more ts i t lt)
    ∙ ap (λ (n : ℕ). here ++ segments_text (filled_segments filling n (drop (i + 1) ts))) next

-- the first segment with the size of the whole, before the text of those after it
pub message_is : (script : ScriptValue) (step : StepValue) (filling : FillingValue) (number : ℕ)
    (later : List ℕ) → later ≡ segments_text (later_segments script step filling number)
    → written_segment
    (first_segment (length (written_segment (first_segment 0 filling.dialog number)) + length later)
    filling.dialog number)
    ++ later
    ≡ segments_text
    (message_with script step filling number (message_size script step filling number))
message_is script step filling number later e =
    let text : List ℕ = segments_text (later_segments script step filling number) in
    let size : length (written_segment (first_segment 0 filling.dialog number)) + length text ≡ message_size
    script step filling number =
    sym (length-append (written_segment (first_segment 0 filling.dialog number)) text) in
    rw e (ap (λ (n : ℕ). written_segment (first_segment n filling.dialog number) ++ text) size)

pub found_at : {X : Type 0} (xs : List X) (i : ℕ) (x d : X) → slice_get xs i ≡ Some x → get_or xs i d ≡ x
found_at [] i x d h = cc
found_at (y ∷ ys) zero x d h = cc
found_at (y ∷ ys) (suc i) x d h = found_at ys i x d h
