-- Places of a step's message.
use Rattle.std.proofs.Common.{ℕ, zero, suc, ◌+◌, ◌<◌, ◌≡◌, Bool, true, false, List, [], ◌∷◌, length, Some, None, ap, sym, subst, ◌∙◌, arith, inl, inr}
use Rattle.std.specs.Prelude.{Any, IsTrue, ◌↔◌}
use Rattle.std.specs.List.{slice_get}
use Rattle.std.proofs.lemmas.Option.{same_Some}
use Rattle.fints_syntax_segments.specs.declared.item.OwnedSegment.{OwnedSegment}
use Rattle.fints_script_cases.specs.declared.values.NamedValue.{NamedValue}
use Rattle.fints_script_rows.specs.declared.fields.NamedField.{NamedField}
use Rattle.fints_rules.specs.Breaks.{Breaks, BreaksAt, BreaksByContent}
use Rattle.fints_rules_permissions.specs.Permits.{Granted}
use Rattle.fints_rules.specs.declared.facts.MessageFacts.{MessageFacts}
use Rattle.fints_rules.specs.declared.rule.Rule.{Rule}
use Rattle.fints_script.specs.Scripts.{ScriptValue}
use Rattle.fints_script.specs.Steps.{StepValue}
use Rattle.fints_script_templates.specs.declared.template.Template.{Template}
use Rattle.fints_wire.specs.Filling.{FillingValue, filled_segments, filling_of}
use Rattle.fints_wire.specs.Views.{message_view}
use Rattle.fints_check_findings.specs.Kinds.{template_count}
use Rattle.fints_check_findings.specs.StepFacts.{TemplateBreaks, TemplateBreaksAt}

-- ---- segments of a step

pub at_template : (granted : Granted) (fields : List NamedField) (step : StepValue) (f : MessageFacts)
    (r : Rule) (number i : ℕ) (t : Template) (n : ℕ) (b : Bool) → number ≡ 2 + length step.signers + i
    → slice_get step.templates i ≡ Some t → n ≡ template_count t.kind step.templates
    → IsTrue b ↔ TemplateBreaks granted fields f r t n → IsTrue b
    ↔ TemplateBreaksAt granted fields step f r number
at_template granted fields step f r number i t n b is at count same = (
  λ h. record { i = i; template = t; there = at; number_is = is; breaks = subst (λ (m : ℕ). TemplateBreaks granted fields f r t m) count (same.0 h) },
  λ h.
      let here : h.i ≡ i = omega (arith, is, h.number_is) in
      let one : h.template ≡ t = same_Some h.template t (sym h.there ∙ (ap (λ (k : ℕ). slice_get step.templates k) here ∙ at)) in
      let breaks : TemplateBreaks granted fields f r t (template_count t.kind step.templates) =
      subst (λ (x : Template). TemplateBreaks granted fields f r x (template_count x.kind step.templates))
      one h.breaks in
      same.1 (subst (λ (m : ℕ). TemplateBreaks granted fields f r t m) (sym count) breaks),
)

pub at_none : (granted : Granted) (fields : List NamedField) (step : StepValue) (f : MessageFacts) (r : Rule)
    (number i : ℕ) → number ≡ 2 + length step.signers + i → slice_get step.templates i ≡ None → IsTrue false
    ↔ TemplateBreaksAt granted fields step f r number
at_none granted fields step f r number i is at = (
  λ h. let no_match : false ≡ true = h in cc,
  λ h.
      let here : h.i ≡ i = omega (arith, is, h.number_is) in
      let both : Some h.template ≡ None = sym h.there ∙ (ap (λ (k : ℕ). slice_get step.templates k) here ∙ at) in
      cc,
)

-- ---- places of a message

numbers_within : (P : OwnedSegment → Type 0) (F : FillingValue) (n place : ℕ) (ts : List Template)
    → Any (λ (s : OwnedSegment). (s.head.number ≡ place) × P s) (filled_segments F n ts)
    → place < n + length ts
numbers_within P F n place [] (k, s, lt, at, h) = absurd (omega (arith, lt))
numbers_within P F n place (t ∷ ts) (zero, s, lt, at, h) =
    let here : n ≡ place = subst (λ (x : OwnedSegment). x.head.number ≡ place) (sym at) h.0 in
    omega (arith, here)
numbers_within P F n place (t ∷ ts) (suc k, s, lt, at, h) =
    let rest = numbers_within P F (n + 1) place ts (k, s, omega (arith, lt), at, h) in
    omega (arith, rest)

pub content_within : (granted : Granted) (script : ScriptValue) (step : StepValue) (number : ℕ)
    (values : List NamedValue) (r : Rule) (place : ℕ)
    → BreaksByContent granted (message_view script step number values) r place
    → place < 2 + length step.signers + length step.templates
content_within granted script step number values r place (inl (at, b)) = omega (arith, at)
content_within granted script step number values r place (inr any) =
    numbers_within (BreaksAt granted (message_view script step number values) r)
    (filling_of script.fields values number) (2 + length step.signers) place step.templates any

pub place_within : (granted : Granted) (script : ScriptValue) (step : StepValue) (number : ℕ)
    (values : List NamedValue) (r : Rule) (place : ℕ)
    → Breaks granted (message_view script step number values) r place
    → place < 2 + length step.signers + length step.templates
place_within granted script step number values r place (inl (at, b)) = omega (arith, at)
place_within granted script step number values r place (inr b) = content_within granted script step number values r place b
