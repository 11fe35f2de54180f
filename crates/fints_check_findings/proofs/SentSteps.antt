-- Which findings of a step that runs send are real.
use Rattle.std.proofs.Common.{ℕ, ◌+◌, ◌<◌, ◌≡◌, ◌⊎◌, Bool, List, length, Some, sym, subst, arith, inl, inr}
use Rattle.fints_rules.proofs.RuleTable.{rule_or}
use Rattle.fints_rules.specs.Breaks.{BreaksByContent}
use Rattle.fints_rules.specs.declared.rule.Rule.{Rule}
use Rattle.fints_rules.specs.declared.rule.Rule.TheVariants.{Release}
use Rattle.fints_script_cases.specs.declared.values.NamedValue.{NamedValue}
use Rattle.fints_script.specs.Numbered.{numbered}
use Rattle.fints_script.specs.Plans.{Admits}
use Rattle.fints_script.specs.Sound.{IsSound, IsSoundStep}
use Rattle.fints_wire.specs.Choices.{longest_choice}
use Rattle.fints_wire.specs.Views.{message_view}
use Rattle.fints_wire.proofs.LawLemmas.{extremes_are_admitted_longest}
use Rattle.fints_check_findings.specs.AtStep.{AtStepValue, BreaksAsSent, IsSentStep}
use Rattle.fints_check_findings.specs.Breakable.{CanBreak}
use Rattle.fints_check_findings.specs.Findings.{IsReal}
use Rattle.fints_check_findings.specs.declared.finding.Finding.{Finding}
use Rattle.fints_check_findings.specs.declared.finding.Reached.{Reached}
use Rattle.fints_check_findings.proofs.FigureRules.{figures_each, figures_some}
use Rattle.fints_check_findings.proofs.LawLemmas.{release_is_left}
use Rattle.fints_check_findings.proofs.Places.{content_within}
use Rattle.fints_check_findings.proofs.Reals.{broken_real, real_breaks}

-- what its message holds breaks the rule at the place, for some admitted values and at some number
abbrev pub IsHeld : AtStepValue → Rule → ℕ → Type 0
IsHeld s r place =
    (number : ℕ) × (values : List NamedValue) × Admits s.script.fields values
    × BreaksByContent s.granted (message_view s.script s.step number values) r place

module _ (s : AtStepValue) (figures : Reached) (unreleased : Bool) (is : IsSentStep s figures unreleased)
    (at : numbered s.script.steps s.n ≡ Some s.step) (sound : IsSound s.script)
    (sound_step : IsSoundStep s.script s.step) where
  abbrev Real : Rule → ℕ → Type 0
  Real r place = IsReal s.granted s.script (record { step = s.n; rule = r; segment = place })

  abbrev BreaksSo : Rule → Type 0
  BreaksSo r = BreaksAsSent (record { at = s; figures = figures; unreleased = unreleased }) r

  pub sent_real : (r : Rule) (place : ℕ) → place ≡ 0 → BreaksSo r → Real r place
  sent_real r place zero (inl b) = broken_real s.script s.granted sound (record { step = s.n; rule = r; segment = place }) figures.number s.step at is.greatest
      (record {
        values = longest_choice s.script.fields;
        admitted = extremes_are_admitted_longest s.script.fields;
        breaks =
            inl (
              zero,
              figures_some s.granted s.script s.step s.n figures is.figures_are at sound sound_step r
                  b,
            );
      })
  sent_real r place zero (inr (release, left)) = subst (λ (x : Rule). Real x place) (sym release) (subst (Real Release) (sym zero) (is.left.0 left))

  pub held_real : (r : Rule) (place : ℕ) → CanBreak s.granted s.script s.step r place → Real r place
  held_real r place can =
      broken_real s.script s.granted sound (record { step = s.n; rule = r; segment = place }) figures.number
      s.step at is.greatest
      (record { values = can.values; admitted = can.admitted; breaks = inr (can.breaks figures.number) })

  pub real_sent : (r : Rule) (place : ℕ) → Real r place → ((place ≡ 0) × BreaksSo r) ⊎ IsHeld s r place
  real_sent r place real = elim (rule_or r Release) [
    | inl release ↦
        let zero = (release_is_left s.granted s.script (record { step = s.n; rule = r; segment = place }) sound release real).0 in
        inl (zero, inr (release, is.left.1 (subst (Real Release) zero (subst (λ (x : Rule). Real x place) release real))))
    | inr other ↦
        let b = real_breaks s.script s.granted sound (record { step = s.n; rule = r; segment = place }) figures.number s.step other at is.greatest real in
        elim b.5 [
          | inl whole ↦ inl (whole.0, inl (figures_each s.granted s.script s.step s.n figures is.figures_are at sound sound_step r b.1 b.0 b.2 b.3 b.4 whole.1))
          | inr held ↦ inr (b.1, b.0, b.2, held)
        ]
  ]

  -- each is at a place of the step's message
  pub few_places : (f : Finding) → f.step ≡ s.n → IsReal s.granted s.script f
      → f.segment < 2 + length s.step.signers + length s.step.templates
  few_places f here real =
      elim
      (real_sent f.rule f.segment
      (subst
      (λ (k : ℕ).
      IsReal s.granted s.script (record { step = k; rule = f.rule; segment = f.segment }))
      here real)) [
        | inl whole ↦ let zero = whole.0 in omega (arith, zero)
        | inr held ↦ content_within s.granted s.script s.step held.0 held.1 f.rule f.segment held.3
      ]
