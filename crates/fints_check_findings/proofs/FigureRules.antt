-- P2 and P3, which depend on a message's number and size: what messages of a step with its greatest figures break.
use Rattle.std.proofs.Common.{Some, ℕ, ◌≤◌, ◌≡◌, ◌⊎◌, List, refl, arith, inl, inr}
use Rattle.std.specs.Prelude.{Any}
use Rattle.fints_syntax_segments.specs.declared.item.OwnedSegment.{OwnedSegment}
use Rattle.fints_params.specs.declared.rows.BankRow.{BankRow}
use Rattle.fints_rules_messages.specs.Messages.{IsMessage, MessageView}
use Rattle.fints_rules.specs.Breaks.{Breaks, BreaksByContent, BreaksByFigures}
use Rattle.fints_rules_permissions.specs.Permits.{Granted}
use Rattle.fints_rules.specs.Rules.{FiguresBreak}
use Rattle.fints_rules.specs.declared.facts.Figures.{Figures}
use Rattle.fints_rules.specs.declared.rule.Rule.{Rule}
use Rattle.fints_rules.specs.declared.rule.Rule.TheVariants as rule
use Rattle.fints_script_cases.specs.declared.values.NamedValue.{NamedValue}
use Rattle.fints_script.specs.Numbered.{numbered}
use Rattle.fints_script.specs.Plans.{Admits}
use Rattle.fints_script.specs.Scripts.{ScriptValue}
use Rattle.fints_script.specs.Sound.{IsSound, IsSoundStep}
use Rattle.fints_script.specs.Steps.{StepValue}
use Rattle.fints_wire.specs.Choices.{longest_choice}
use Rattle.fints_wire.specs.Messages.{message_bytes}
use Rattle.fints_wire.specs.Views.{message_view}
use Rattle.fints_check_findings.specs.Figures.{reached_figures}
use Rattle.fints_check_findings.specs.Searching.{AreFiguresAt}
use Rattle.fints_check_findings.specs.declared.finding.Reached.{Reached}
use Rattle.fints_wire.specs.declared.building.TheConstants.{MAX_NUMBER}
use Rattle.fints_check_findings.proofs.Reals.{longest_are_longest, read_at}
use Rattle.fints_wire.proofs.LawLemmas.{extremes_are_admitted_longest}

-- ---- which rules they are

-- what figures break is P2 or P3
pub figures_rule : (bank : BankRow) (f : Figures) (r : Rule) → FiguresBreak bank f r
    → (r ≡ rule.Number) ⊎ (r ≡ rule.Size)
figures_rule bank f rule.Number b = inl refl
figures_rule bank f rule.Size b = inr refl
figures_rule bank f _ b = absurd b

nowhere : (P : OwnedSegment → Type 0) (xs : List OwnedSegment) → ((s : OwnedSegment) → P s → ⊥) → Any P xs → ⊥
nowhere P xs none (k, s, lt, at, h) = none s h

-- what a message holds breaks neither
pub number_alone : (granted : Granted) (m : MessageView) (place : ℕ)
    → BreaksByContent granted m rule.Number place → ⊥
number_alone granted m place (inl b) = b.1
number_alone granted m place (inr any) = nowhere _ _ (λ s h. h.1) any

pub size_alone : (granted : Granted) (m : MessageView) (place : ℕ) → BreaksByContent granted m rule.Size place
    → ⊥
size_alone granted m place (inl b) = b.1
size_alone granted m place (inr any) = nowhere _ _ (λ s h. h.1) any

-- ---- at the greatest figures

module _ (granted : Granted) (script : ScriptValue) (step : StepValue) (n : ℕ) (figures : Reached)
    (are : AreFiguresAt script step figures) (at : numbered script.steps n ≡ Some step)
    (sound : IsSound script) (sound_step : IsSoundStep script step) where
  read : (number : ℕ) (values : List NamedValue) → 1 ≤ number → number ≤ MAX_NUMBER
      → Admits script.fields values
      → IsMessage (message_bytes script step number values) (message_view script step number values)
  read number values low high admits = read_at script granted sound n number step values at low high admits

  -- what they break the longest message does
  pub figures_some : (r : Rule) → FiguresBreak granted.rows.bank (reached_figures figures) r
      → BreaksByFigures granted (message_view script step figures.number (longest_choice script.fields)) r
  figures_some rule.Number b = b
  figures_some rule.Size b =
      let whole =
      (read figures.number (longest_choice script.fields) are.least are.most (extremes_are_admitted_longest script.fields)).size in
      (b.0, omega (arith, b.1, are.size, whole))
  figures_some _ b = absurd b

  -- what a message of a number up to theirs breaks they do
  pub figures_each : (r : Rule) (lower : ℕ) (values : List NamedValue) → Admits script.fields values
      → 1 ≤ lower → lower ≤ figures.number → BreaksByFigures granted (message_view script step lower values) r
      → FiguresBreak granted.rows.bank (reached_figures figures) r
  figures_each rule.Number lower values admits low high (inl none) = absurd (omega (arith, low, none))
  figures_each rule.Number lower values admits low high (inr past) = inr (omega (arith, high, past))
  figures_each rule.Size lower values admits low high b =
      let most = are.most in
      let whole = (read lower values low (omega (arith, most, high)) admits).size in
      let long = longest_are_longest script sound step values lower figures.number sound_step admits low high are.most in
      (b.0, omega (arith, b.1, are.size, whole, long))
  figures_each _ lower values admits low high b = absurd b

  -- ---- cases

  -- what breaks P2 at a lower number any values do at the greatest
  pub number_case : (place lower : ℕ) (other values : List NamedValue) → Admits script.fields other
      → 1 ≤ lower → lower ≤ figures.number
      → Breaks granted (message_view script step lower other) rule.Number place
      → Breaks granted (message_view script step figures.number values) rule.Number place
  number_case place lower other values admits low high (inl (at, b)) = inl (at, figures_each rule.Number lower other admits low high b)
  number_case place lower other values admits low high (inr b) = absurd (number_alone granted (message_view script step lower other) place b)

  -- what breaks P3 the longest values do
  pub size_case : (place lower : ℕ) (other : List NamedValue) → Admits script.fields other → 1 ≤ lower
      → lower ≤ figures.number → Breaks granted (message_view script step lower other) rule.Size place
      → Breaks granted (message_view script step figures.number (longest_choice script.fields)) rule.Size
      place
  size_case place lower other admits low high (inl (at, b)) = inl (at, figures_some rule.Size (figures_each rule.Size lower other admits low high b))
  size_case place lower other admits low high (inr b) = absurd (size_alone granted (message_view script step lower other) place b)
