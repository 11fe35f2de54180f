-- A step as the rules are asked of it, and one that runs send. Only private contracts and models cite these words.
use Rattle.std.specs.Prelude.{ℕ, ◌≡◌, ◌⊎◌, ◌↔◌, Bool, List, Some, slice_get, IsTrue}
use Rattle.fints_script_cases.specs.declared.values.NamedValue.{NamedValue}
use Rattle.fints_rules_permissions.specs.Permits.{Granted}
use Rattle.fints_rules.specs.Breaks.{BreaksByContent}
use Rattle.fints_rules.specs.Rules.{FiguresBreak}
use Rattle.fints_rules.specs.declared.rule.Rule.{Rule}
use Rattle.fints_rules.specs.declared.rule.Rule.TheVariants.{Release}
use Rattle.fints_script.specs.Numbered.{numbered}
use Rattle.fints_script.specs.Plans.{Admits, IsClosedTemplate}
use Rattle.fints_script.specs.Scripts.{ScriptValue}
use Rattle.fints_script.specs.Sound.{IsSound, IsSoundStep}
use Rattle.fints_script.specs.Steps.{StepValue}
use Rattle.fints_script_templates.specs.declared.template.Template.{Template}
use Rattle.fints_wire.specs.Views.{message_view}
use Rattle.fints_check_findings.specs.Cases.{AsksNoField, HaveFirstAccount}
use Rattle.fints_check_findings.specs.Choosing.{extreme_choice}
use Rattle.fints_check_findings.specs.Elements.{wants_tan}
use Rattle.fints_check_findings.specs.Figures.{reached_figures}
use Rattle.fints_check_findings.specs.Findings.{IsReal}
use Rattle.fints_check_findings.specs.Laws.{release_of}
use Rattle.fints_check_findings.specs.Searching.{AreFiguresAt, IsGreatestAt}
use Rattle.fints_check_findings.specs.StepFacts.{AreStepFacts}
use Rattle.fints_check_findings.specs.declared.finding.Reached.{Reached}
use Rattle.fints_check_findings.specs.declared.step_facts.StepFacts.{StepFacts}

-- what the rules are asked under, the step's script, its number and the step itself
pub record AtStepValue : Type 0 where
  pub granted : Granted
  pub script : ScriptValue
  pub n : ℕ
  pub step : StepValue

-- the script's step of that number, with no account or process left open, and its facts
pub record IsAtStep (granted : Granted) (script : ScriptValue) (n : ℕ) (step : StepValue) (facts : StepFacts)
    : Type 0 where
  pub at : numbered script.steps n ≡ Some step
  pub sound : IsSound script
  pub sound_step : IsSoundStep script step
  pub closed : (i : ℕ) (t : Template) → slice_get step.templates i ≡ Some t
      → IsClosedTemplate script.fields granted.orders t
  pub facts_are : AreStepFacts granted script step facts

-- the step is the script's of that number, which was read
pub record IsOfScript (s : AtStepValue) : Type 0 where
  pub at : numbered s.script.steps s.n ≡ Some s.step
  pub sound : IsSound s.script
  pub sound_step : IsSoundStep s.script s.step

-- a step that runs send, its greatest figures, and whether it leaves an order unreleased
pub record SentStepValue : Type 0 where
  pub at : AtStepValue
  pub figures : Reached
  pub unreleased : Bool

pub record IsSentStep (s : AtStepValue) (figures : Reached) (unreleased : Bool) : Type 0 where
  pub figures_are : AreFiguresAt s.script s.step figures
  pub greatest : IsGreatestAt s.script.steps s.n figures.number
  pub left : IsTrue unreleased ↔ IsReal s.granted s.script (release_of s.n)

-- its figures break the rule, or it is P11 and an order is left unreleased
abbrev pub BreaksAsSent : SentStepValue → Rule → Type 0
BreaksAsSent s r =
    FiguresBreak s.at.granted.rows.bank (reached_figures s.figures) r ⊎ ((r ≡ Release) × IsTrue s.unreleased)

-- the values are admitted, and what the step's message holds with them breaks the rule at the place, at every
-- number; they are the extreme ones that the rule is asked of, or, for P8 and P9, have the first account
-- that does
pub record AreChosenAt (s : AtStepValue) (r : Rule) (place : ℕ) (values : List NamedValue) : Type 0 where
  pub admitted : Admits s.script.fields values
  pub breaks : (number : ℕ) → BreaksByContent s.granted (message_view s.script s.step number values) r place
  pub chosen : ((values ≡ extreme_choice (wants_tan r) s.script.fields) × AsksNoField s.script s.step r place)
      ⊎ HaveFirstAccount s.granted s.script s.step r place values
