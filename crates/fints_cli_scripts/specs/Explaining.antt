-- How far cases are written, and when none is. Only private contracts use these words.
use Rattle.std.specs.Prelude.{◌≡◌, ℕ, List, ◌++◌, Option, Some, None}
use Rattle.fints_check_findings.specs.Findings.{Shows}
use Rattle.fints_check_findings.specs.declared.finding.Finding.{Finding}
use Rattle.fints_check_findings.specs.Reports.{LeadsToGreatest}
use Rattle.fints_check_findings.specs.declared.finding.Reached.{Reached}
use Rattle.fints_cli_texts.specs.declared.fault.Fault.{Fault}
use Rattle.fints_cli_texts.specs.declared.fault.Fault.TheVariants.{Memory, NoFinding}
use Rattle.fints_rules_permissions.specs.Permits.{Granted}
use Rattle.fints_script.specs.Scripts.{ScriptValue}
use Rattle.fints_script.specs.Steps.{StepValue}
use Rattle.fints_cli_scripts.specs.ExplainText.{AreCasesChosen, HasNoFinding, IsChosenCase, cases_text, shown_case}
use Rattle.fints_cli_scripts.specs.Headline.{AreCases, CaseValue}

-- the answers lead to the step's greatest number, if one is named
abbrev pub IsWayTo : List StepValue → List (Option Reached) → Option ℕ → List (List ℕ) → Type 0
IsWayTo steps figures None answers = Unit {0}
IsWayTo steps figures (Some n) answers = LeadsToGreatest steps figures n answers

-- after the old text is a case that shows this finding, which counts from 1
pub record IsCaseWritten (granted : Granted) (script : ScriptValue) (figures : List (Option Reached))
    (number : ℕ) (f : Finding) (old new : List ℕ) : Type 0 where
  pub case : CaseValue
  pub shows : Shows granted script f case.values case.answers
  pub chosen : IsChosenCase granted script figures f case
  pub text_is : new ≡ old ++ shown_case script.steps number f case

-- after the old text is a case of each finding
pub record AreCasesWritten (granted : Granted) (script : ScriptValue) (figures : List (Option Reached))
    (findings : List Finding) (old new : List ℕ) : Type 0 where
  pub cases : List CaseValue
  pub are : AreCases granted script findings cases
  pub chosen : AreCasesChosen granted script figures findings cases
  pub text_is : new ≡ old ++ cases_text script.steps 1 findings cases

-- out of memory, or that there is no finding of the number
abbrev pub IsUnfound : Granted → ScriptValue → ℕ → Fault → Type 0
IsUnfound granted script number Memory = Unit {0}
IsUnfound granted script number (NoFinding n) = (n ≡ number) × HasNoFinding granted script number
IsUnfound granted script number _ = ⊥
