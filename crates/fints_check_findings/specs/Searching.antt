-- What a search for findings returns on its way, and its progress. Only private contracts use these words.
use Rattle.std.specs.Prelude.{ℕ, ◌≡◌, ◌≤◌, ◌<◌, ◌⊎◌, ◌↔◌, List, length, AllPairs, Contains, Some, slice_get}
use Rattle.fints_script_cases.specs.declared.values.NamedValue.{NamedValue}
use Rattle.fints_rules.specs.Breaks.{Breaks}
use Rattle.fints_rules.specs.Rules.{rule_number}
use Rattle.fints_rules_permissions.specs.Permits.{Granted}
use Rattle.fints_rules.specs.declared.rule.Rule.{Rule}
use Rattle.fints_rules.specs.declared.rule.Rule.TheVariants.{Release}
use Rattle.fints_script.specs.Numbered.{numbered}
use Rattle.fints_script.specs.Plans.{Admits}
use Rattle.fints_script.specs.Scripts.{ScriptValue}
use Rattle.fints_script.specs.Steps.{StepValue}
use Rattle.fints_wire.specs.Choices.{longest_choice}
use Rattle.fints_wire.specs.Messages.{message_bytes}
use Rattle.fints_wire.specs.Runs.{Arrives}
use Rattle.fints_wire.specs.declared.dialogue.Visit.{Visit}
use Rattle.fints_wire.specs.Views.{message_view}
use Rattle.fints_check_findings.specs.Cases.{AreChosenFor}
use Rattle.fints_check_findings.specs.Findings.{IsBefore, IsReal}
use Rattle.fints_check_findings.specs.Reports.{ReportValue}
use Rattle.fints_check_findings.specs.declared.finding.Finding.{Finding}
use Rattle.fints_wire.specs.declared.building.TheConstants.{MAX_NUMBER}
use Rattle.fints_check_findings.specs.declared.finding.Reached.{Reached}

-- before this place, counted from 0, of the rule of this number, from 1, of step n
abbrev pub IsEarlier : ℕ → ℕ → ℕ → Finding → Type 0
IsEarlier n r place f =
    (f.step < n)
    ⊎ ((f.step ≡ n) × ((rule_number f.rule < r) ⊎ ((rule_number f.rule ≡ r) × (f.segment < place))))

-- exactly the real findings before that, in order, each once
pub record AreFoundTo (granted : Granted) (script : ScriptValue) (n r place : ℕ) (findings : List Finding)
    : Type 0 where
  pub exactly : (f : Finding) → Contains findings f ↔ (IsEarlier n r place f × IsReal granted script f)
  pub in_order : AllPairs IsBefore findings

-- the figures are the number of a step's messages and the length of the longest of this number, and both can be asked for
pub record AreFiguresAt (script : ScriptValue) (step : StepValue) (figures : Reached) : Type 0 where
  pub least : 1 ≤ figures.number
  pub most : figures.number ≤ MAX_NUMBER
  pub size : figures.size ≡ length (message_bytes script step figures.number (longest_choice script.fields))

-- some admitted values make the step's message of this number break the rule at the place
pub record BreaksUnder (granted : Granted) (script : ScriptValue) (step : StepValue) (number : ℕ)
    (rule : Rule) (place : ℕ) : Type 0 where
  pub values : List NamedValue
  pub admitted : Admits script.fields values
  pub breaks : Breaks granted (message_view script step number values) rule place

-- the number is that of a message of step n that some run sends last, and no run's last message of it exceeds it
pub record IsGreatestAt (steps : List StepValue) (n number : ℕ) : Type 0 where
  pub attained : (v : Visit) × Arrives steps v × (v.step ≡ n) × (v.number ≡ number)
  pub most : (v : Visit) → Arrives steps v → v.step ≡ n → v.number ≤ number

-- if the finding is real, the values are admitted, and at the step's greatest number they make its message break the finding's rule at its segment
abbrev pub BreaksAtGreatest : Granted → ScriptValue → Finding → List NamedValue → Type 0
BreaksAtGreatest granted script f values =
    (number : ℕ) (step : StepValue) → numbered script.steps f.step ≡ Some step
    → IsGreatestAt script.steps f.step number → IsReal granted script f
    → Admits script.fields values × Breaks granted (message_view script step number values) f.rule f.segment

-- if the finding is real, the values are those that are chosen for it
abbrev pub AreChosenAtGreatest : Granted → ScriptValue → Finding → List NamedValue → Type 0
AreChosenAtGreatest granted script f values =
    (number : ℕ) (step : StepValue) → numbered script.steps f.step ≡ Some step
    → IsGreatestAt script.steps f.step number → IsReal granted script f
    → AreChosenFor granted script f values

-- for P11 the values are admitted; for any other they break it at the greatest number; and which they are
pub record AreCaseValues (granted : Granted) (script : ScriptValue) (f : Finding) (values : List NamedValue)
    : Type 0 where
  pub admitted : f.rule ≡ Release → Admits script.fields values
  pub greatest : (f.rule ≡ Release → ⊥) → BreaksAtGreatest granted script f values
  pub chosen : AreChosenAtGreatest granted script f values

-- the finding is at this place of a report, counted from 0; it is real, and its step is one of the plan's
pub record IsFindingOf (report : ReportValue) (i : ℕ) (f : Finding) : Type 0 where
  pub at : slice_get report.findings i ≡ Some f
  pub real : IsReal report.granted report.plan.script f
  pub from : 1 ≤ f.step
  pub to : f.step ≤ length report.plan.script.steps
