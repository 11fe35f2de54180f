-- What `draw` prints of a script, by itself or with what its runs break.
use Rattle.std.specs.Prelude.{◌≡◌, ℕ, List, [], Option}
use Rattle.fints_params.specs.Captures.{IsParamsOf}
use Rattle.fints_params.specs.Parameters.{Rows}
use Rattle.fints_rules_permissions.specs.Permits.{Granted}
use Rattle.fints_script.specs.Scripts.{ScriptValue}
use Rattle.fints_check_findings.specs.Figures.{AreFigures}
use Rattle.fints_check_findings.specs.Findings.{AreFindings, EachIsPermitted}
use Rattle.fints_check_findings.specs.declared.finding.Finding.{Finding}
use Rattle.fints_check_findings.specs.declared.finding.Reached.{Reached}
use Rattle.fints_cli_scripts.specs.Plans.{ArePlan}
use Rattle.fints_cli_scripts.specs.ReportText.{report_status}
use Rattle.fints_cli_drawings.specs.Picture.{picture_text}

-- ---- a script by itself

-- the text of an order table without orders
abbrev pub no_orders : List ℕ
no_orders = []

-- the text is the picture of the script with the greatest figures of its steps, and with no findings
pub record IsPicture (script : ScriptValue) (text : List ℕ) : Type 0 where
  pub figures : List (Option Reached)
  pub figures_are : AreFigures script figures
  pub text_is : text ≡ picture_text script.steps figures []

-- it is that of the script that this text denotes; an order table without orders leaves nothing of it open
pub record IsPictureOf (script text : List ℕ) : Type 0 where
  pub value : ScriptValue
  pub plan : ArePlan no_orders script value
  pub picture : IsPicture value text

-- ---- a script with what its runs break

-- the text and the status say the greatest figures of the steps, and what the runs break under these
-- permissions; where the status is 0, each message of each run is permitted
pub record IsDrawnBy (granted : Granted) (script : ScriptValue) (status : ℕ) (text : List ℕ) : Type 0 where
  pub figures : List (Option Reached)
  pub findings : List Finding
  pub figures_are : AreFigures script figures
  pub findings_are : AreFindings granted script findings
  pub text_is : text ≡ picture_text script.steps figures findings
  pub status_is : status ≡ report_status findings
  pub permitted : status ≡ 0 → EachIsPermitted granted script

-- they say it by these rows of parameters and the texts of an order table and of a script
pub record IsDrawnOn (rows : Rows) (orders script : List ℕ) (status : ℕ) (text : List ℕ) : Type 0 where
  pub value : ScriptValue
  pub plan : ArePlan orders script value
  pub drawn : IsDrawnBy (record { rows = rows; orders = plan.table }) value status text

-- they say it by a capture and these texts
pub record IsDrawnOf (params orders script : List ℕ) (status : ℕ) (text : List ℕ) : Type 0 where
  pub rows : Rows
  pub rows_are : IsParamsOf params rows
  pub drawn : IsDrawnOn rows orders script status text
