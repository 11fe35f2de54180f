-- The text of a report: a line for each step, a line for each finding, and a last line, with LF at their ends.
use Rattle.std.specs.Prelude.{◌≡◌, ℕ, List, [], ◌∷◌, ◌++◌, length, codes, Option, None, Some}
use Rattle.std.specs.List.{flat_map}
use Rattle.std.specs.Fmt.{decimal}
use Rattle.fints_rules_permissions.specs.Permits.{Granted}
use Rattle.fints_rules.specs.Rules.{rule_name}
use Rattle.fints_script.specs.Scripts.{ScriptValue}
use Rattle.fints_script.specs.Steps.{StepValue}
use Rattle.fints_check_findings.specs.Figures.{AreFigures}
use Rattle.fints_check_findings.specs.Findings.{AreFindings, EachIsPermitted}
use Rattle.fints_check_findings.specs.declared.finding.Finding.{Finding}
use Rattle.fints_check_findings.specs.declared.finding.Reached.{Reached}
use Rattle.fints_cli_scripts.specs.StepNames.{step_name}

-- ---- the text

-- the greatest number and size of a step's messages, or that no run sends it
unfoldable pub reached_text : Option Reached → List ℕ
reached_text None = codes " unreached"
reached_text (Some reached) =
    codes " number " ++ decimal reached.number ++ codes " size " ++ decimal reached.size

-- the line of a step of this name
unfoldable pub step_line : List ℕ → Option Reached → List ℕ
step_line name reached = codes "step " ++ name ++ reached_text reached ++ codes "\n"

-- the lines of the steps, each with the figures at its place
abbrev pub step_lines : List StepValue → List (Option Reached) → List ℕ
step_lines (step ∷ steps) (reached ∷ figures) = step_line step.name reached ++ step_lines steps figures
step_lines _ _ = []

-- the step by its name, the rule and the segment of what was found
unfoldable pub finding_text : List ℕ → Finding → List ℕ
finding_text name f =
    name ++ codes " " ++ rule_name f.rule ++ codes " segment " ++ decimal f.segment ++ codes "\n"

-- the line of what was found of a step of this name
unfoldable pub found_line : List ℕ → Finding → List ℕ
found_line name f = codes "broken " ++ finding_text name f

abbrev pub finding_line : List StepValue → Finding → List ℕ
finding_line steps f = found_line (step_name steps f.step) f

unfoldable pub outcome_line : List Finding → List ℕ
outcome_line [] = codes "clean\n"
outcome_line (f ∷ fs) = codes "findings " ++ decimal (length (f ∷ fs)) ++ codes "\n"

abbrev pub report_text : List StepValue → List (Option Reached) → List Finding → List ℕ
report_text steps figures findings =
    step_lines steps figures ++ flat_map (finding_line steps) findings ++ outcome_line findings

-- 0 for a clean report, else 1
abbrev pub report_status : List Finding → ℕ
report_status [] = 0
report_status (f ∷ fs) = 1

-- ---- what it says

-- it ends with `clean` and LF
abbrev pub EndsClean : List ℕ → Type 0
EndsClean text = (before : List ℕ) × (text ≡ before ++ codes "clean\n")

-- the text and the status say the greatest figures of the steps, and what the runs break under these
-- permissions; where the text ends with `clean`, each message of each run is permitted
pub record IsReportBy (granted : Granted) (script : ScriptValue) (status : ℕ) (text : List ℕ) : Type 0 where
  pub figures : List (Option Reached)
  pub findings : List Finding
  pub figures_are : AreFigures script figures
  pub findings_are : AreFindings granted script findings
  pub text_is : text ≡ report_text script.steps figures findings
  pub status_is : status ≡ report_status findings
  pub permitted : EndsClean text → EachIsPermitted granted script
