-- The body of a step's message, place by place.
use Rattle.std.proofs.Common.{◌≡◌, ℕ, zero, suc, ◌+◌, List, [], ◌∷◌, length, map, Some, refl, ap, subst, ◌∙◌, arith}
use Rattle.std.specs.List.{slice_get}
use Rattle.std.proofs.lemmas.List.{length-map}
use Rattle.std.proofs.lemmas.Option.{same_Some}
use Rattle.fints_script_cases.specs.declared.values.NamedValue.{NamedValue}
use Rattle.fints_script.specs.Scripts.{ScriptValue}
use Rattle.fints_script.specs.Steps.{StepValue}
use Rattle.fints_script_templates.specs.declared.template.Template.{Template}
use Rattle.fints_wire.specs.Filling.{FillingValue, filled_segment, filled_segments, filling_of}
use Rattle.fints_wire.specs.Messages.{end_template, signer_at, signers_of}
use Rattle.fints_wire.specs.Views.{message_view}

filled_at : (filling : FillingValue) (n : ℕ) (ts : List Template) (i : ℕ) (t : Template)
    → slice_get ts i ≡ Some t
    → slice_get (filled_segments filling n ts) i ≡ Some (filled_segment filling (n + i) t)
filled_at filling n [] i t h = absurd cc
filled_at filling n (x ∷ xs) zero t h =
    let e : n ≡ n + 0 = omega arith in
    subst (λ (k : ℕ). Some (filled_segment filling n x) ≡ Some (filled_segment filling k t)) e
    (ap (λ (y : Template). Some (filled_segment filling n y)) (same_Some x t h))
filled_at filling n (x ∷ xs) (suc i) t h =
    let e : (n + 1) + i ≡ n + suc i = omega arith in
    subst (λ (k : ℕ). slice_get (filled_segments filling (n + 1) xs) i ≡ Some (filled_segment filling k t)) e (filled_at filling (n + 1) xs i t h)

filled_count : (filling : FillingValue) (n : ℕ) (ts : List Template)
    → length (filled_segments filling n ts) ≡ length ts
filled_count filling n [] = refl
filled_count filling n (t ∷ ts) = ap suc (filled_count filling (n + 1) ts)

pub body_at : (script : ScriptValue) (step : StepValue) (number : ℕ) (values : List NamedValue) (i : ℕ)
    (t : Template) → slice_get step.templates i ≡ Some t
    → slice_get (message_view script step number values).body i ≡ Some
    (filled_segment (filling_of script.fields values number) (2 + length step.signers + i) t)
body_at script step number values i t h = filled_at (filling_of script.fields values number) (2 + length step.signers) step.templates i t h

pub body_count : (script : ScriptValue) (step : StepValue) (number : ℕ) (values : List NamedValue)
    → length (message_view script step number values).body ≡ length step.templates
body_count script step number values = filled_count (filling_of script.fields values number) (2 + length step.signers) step.templates

pub ends_count : (script : ScriptValue) (step : StepValue) (number : ℕ) (values : List NamedValue)
    → length (message_view script step number values).ends ≡ length step.signers
ends_count script step number values =
    filled_count (filling_of script.fields values number) (2 + length step.signers + length step.templates) (map end_template (signers_of script step))
    ∙ length-map (signers_of script step) end_template
    ∙ length-map step.signers (signer_at script.signers)
