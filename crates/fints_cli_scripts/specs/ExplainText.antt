-- The text of `explain`: the report, and then for each finding, or for only one, a line that counts it from 1,
-- and the text of its case.
use Rattle.std.specs.Prelude.{◌≡◌, ℕ, ◌+◌, List, [], ◌∷◌, ◌++◌, codes, Option, None, Some}
use Rattle.std.specs.List.{AllZip}
use Rattle.std.specs.Fmt.{decimal}
use Rattle.fints_script_cases.specs.Cases.{case_text}
use Rattle.fints_check_findings.specs.Cases.{AreChosenFor}
use Rattle.fints_check_findings.specs.Reports.{LeadsFor}
use Rattle.fints_check_findings.specs.Figures.{AreFigures}
use Rattle.fints_check_findings.specs.Findings.{AreFindings, Shows}
use Rattle.fints_check_findings.specs.declared.finding.Finding.{Finding}
use Rattle.fints_check_findings.specs.declared.finding.Reached.{Reached}
use Rattle.fints_rules_permissions.specs.Permits.{Granted}
use Rattle.fints_script.specs.Numbered.{numbered}
use Rattle.fints_script.specs.Scripts.{ScriptValue}
use Rattle.fints_script.specs.Steps.{StepValue}
use Rattle.fints_cli_scripts.specs.Headline.{CaseValue, Headline}
use Rattle.fints_cli_scripts.specs.ReportText.{finding_text, report_status, report_text}
use Rattle.fints_cli_scripts.specs.StepNames.{step_name}

-- the line of finding i, of a step of this name
unfoldable pub case_line : ℕ → List ℕ → Finding → List ℕ
case_line i name f = codes "case " ++ decimal i ++ codes " " ++ finding_text name f

-- the line and the case
abbrev pub shown_case : List StepValue → ℕ → Finding → CaseValue → List ℕ
shown_case steps i f c = case_line i (step_name steps f.step) f ++ case_text c.values c.answers

-- those of all findings, from number i on
abbrev pub cases_text : List StepValue → ℕ → List Finding → List CaseValue → List ℕ
cases_text steps i (f ∷ fs) (c ∷ cs) = shown_case steps i f c ++ cases_text steps (i + 1) fs cs
cases_text steps i _ _ = []

-- which case of a finding it is: its answers lead to the greatest number of the finding's step, or for P11
-- after a message of the first step whose order it leaves unreleased, by the first branch that carries 0030;
-- and its values are those that are chosen for the finding
pub record IsChosenCase (granted : Granted) (script : ScriptValue) (figures : List (Option Reached))
    (f : Finding) (c : CaseValue) : Type 0 where
  pub way : LeadsFor script figures f c.answers
  pub values : AreChosenFor granted script f c.values

abbrev pub AreCasesChosen : Granted → ScriptValue → List (Option Reached) → List Finding → List CaseValue
    → Type 0
AreCasesChosen granted script figures findings cases =
    AllZip (IsChosenCase granted script figures) findings cases

-- the text and the status say the greatest figures of the steps, what the runs break, and a case of each finding
pub record IsExplainedBy (granted : Granted) (script : ScriptValue) (status : ℕ) (text : List ℕ)
    : Type 0 where
  pub figures : List (Option Reached)
  pub findings : List Finding
  pub cases : List CaseValue
  pub figures_are : AreFigures script figures
  pub headline : Headline granted script findings cases
  pub chosen : AreCasesChosen granted script figures findings cases
  pub text_is : text ≡ report_text script.steps figures findings ++ cases_text script.steps 1 findings cases
  pub status_is : status ≡ report_status findings

-- they say the greatest figures of the steps, what the runs break, and only the case of the finding of this
-- number, counted from 1
pub record IsExplainedAt (granted : Granted) (script : ScriptValue) (number status : ℕ) (text : List ℕ)
    : Type 0 where
  pub figures : List (Option Reached)
  pub findings : List Finding
  pub finding : Finding
  pub case : CaseValue
  pub figures_are : AreFigures script figures
  pub findings_are : AreFindings granted script findings
  pub number_is : numbered findings number ≡ Some finding
  pub shows : Shows granted script finding case.values case.answers
  pub chosen : IsChosenCase granted script figures finding case
  pub text_is : text
      ≡ report_text script.steps figures findings ++ shown_case script.steps number finding case
  pub status_is : status ≡ report_status findings

-- what the runs break has no finding of this number
pub record HasNoFinding (granted : Granted) (script : ScriptValue) (number : ℕ) : Type 0 where
  pub findings : List Finding
  pub findings_are : AreFindings granted script findings
  pub none : numbered findings number ≡ None
