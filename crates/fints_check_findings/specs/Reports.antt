-- What a report holds, and what is said of its findings.
use Rattle.std.specs.Prelude.{◌≡◌, ℕ, Option, Some, List, slice_get}
use Rattle.fints_script_cases.specs.declared.values.NamedValue.{NamedValue}
use Rattle.fints_rules_permissions.specs.Permits.{Granted}
use Rattle.fints_rules.specs.declared.rule.Rule.TheVariants.{Release}
use Rattle.fints_script.specs.Numbered.{numbered}
use Rattle.fints_script.specs.Plans.{PlanValue}
use Rattle.fints_script.specs.Scripts.{ScriptValue}
use Rattle.fints_script.specs.Steps.{StepValue}
use Rattle.fints_wire.specs.Runs.{RouteTo}
use Rattle.fints_check_findings.specs.Cases.{AreChosenFor}
use Rattle.fints_check_findings.specs.Findings.{Shows}
use Rattle.fints_check_findings.specs.Releases.{LeadsFromFirst}
use Rattle.fints_check_findings.specs.declared.finding.Finding.{Finding}
use Rattle.fints_check_findings.specs.declared.finding.Reached.{Reached}

-- the plan and what the bank permits, each step's greatest figures, what was found, and how many steps and branches were looked at
pub record ReportValue : Type 0 where
  pub plan : PlanValue
  pub granted : Granted
  pub figures : List (Option Reached)
  pub findings : List Finding
  pub visits : ℕ

-- ---- findings, counted from 0

-- the run of these answers, all of them used, ends with a message of step n that has the number of the step's figures
pub record LeadsToGreatest (steps : List StepValue) (figures : List (Option Reached)) (n : ℕ)
    (answers : List (List ℕ)) : Type 0 where
  pub reached : Reached
  pub has : numbered figures n ≡ Some (Some reached)
  pub times : ℕ
  pub route : RouteTo steps answers (record { step = n; number = reached.number; times = times })

-- the answers lead to the greatest number of the finding's step; for P11 to a message of it after one of the first step whose order it leaves unreleased
pub record LeadsFor (script : ScriptValue) (figures : List (Option Reached)) (f : Finding)
    (answers : List (List ℕ)) : Type 0 where
  pub longest : (f.rule ≡ Release → ⊥) → LeadsToGreatest script.steps figures f.step answers
  pub unreleased : f.rule ≡ Release → LeadsFromFirst script f.step answers

abbrev pub IsWayOf : ReportValue → ℕ → List (List ℕ) → Type 0
IsWayOf report i answers =
    (f : Finding) → slice_get report.findings i ≡ Some f
    → LeadsFor report.plan.script report.figures f answers

-- the values show the finding with any answers that lead so
abbrev pub AreValuesOf : ReportValue → ℕ → List NamedValue → Type 0
AreValuesOf report i values =
    (f : Finding) (answers : List (List ℕ)) → slice_get report.findings i ≡ Some f
    → LeadsFor report.plan.script report.figures f answers
    → Shows report.granted report.plan.script f values answers

-- they are the values that are chosen for the finding
abbrev pub AreChosenOf : ReportValue → ℕ → List NamedValue → Type 0
AreChosenOf report i values =
    (f : Finding) → slice_get report.findings i ≡ Some f
    → AreChosenFor report.granted report.plan.script f values

-- these values and answers show the finding
abbrev pub ShowsFindingAt : ReportValue → ℕ → List NamedValue → List (List ℕ) → Type 0
ShowsFindingAt report i values answers =
    (f : Finding) → slice_get report.findings i ≡ Some f
    → Shows report.granted report.plan.script f values answers
