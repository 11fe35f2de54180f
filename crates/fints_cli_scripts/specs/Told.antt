-- What is said of a script, and why nothing is. What only private contracts and proofs use comes last, under
-- a heading.
use Rattle.std.specs.Prelude.{◌≡◌, ℕ, List}
use Rattle.fints_params.specs.Parameters.{Rows}
use Rattle.fints_params.specs.Captures.{IsParamsOf, IsParamFault}
use Rattle.fints_rules_permissions.specs.Permits.{Granted}
use Rattle.fints_script.specs.Scripts.{ScriptValue}
use Rattle.fints_cli_texts.specs.declared.fault.Fault.{Fault}
use Rattle.fints_cli_texts.specs.declared.fault.Fault.TheVariants.{Memory, NoFinding, Params}
use Rattle.fints_cli_scripts.specs.Certified.{IsCertifiedBy}
use Rattle.fints_cli_scripts.specs.ExplainText.{HasNoFinding, IsExplainedAt, IsExplainedBy}
use Rattle.fints_cli_scripts.specs.Plans.{ArePlan, IsPlanRefusal}
use Rattle.fints_cli_scripts.specs.ReportText.{IsReportBy}
use Rattle.fints_cli_scripts.specs.declared.telling.Wanted.{Wanted}
use Rattle.fints_cli_scripts.specs.declared.telling.Wanted.TheVariants.{Report, Cases, OneCase, Certificate}

-- by what is wanted, what the text and the status say
abbrev pub IsToldBy : Wanted → Granted → ScriptValue → ℕ → List ℕ → Type 0
IsToldBy Report granted script status text = IsReportBy granted script status text
IsToldBy Cases granted script status text = IsExplainedBy granted script status text
IsToldBy (OneCase number) granted script status text = IsExplainedAt granted script number status text
IsToldBy Certificate granted script status text = IsCertifiedBy granted script status text

-- they say it by these rows of parameters and the texts of an order table and of a script
pub record IsToldOn (wanted : Wanted) (rows : Rows) (orders script : List ℕ) (status : ℕ) (text : List ℕ)
    : Type 0 where
  pub value : ScriptValue
  pub plan : ArePlan orders script value
  pub told : IsToldBy wanted (record { rows = rows; orders = plan.table }) value status text

-- they say it by a capture and these texts
pub record IsToldOf (wanted : Wanted) (params orders script : List ℕ) (status : ℕ) (text : List ℕ)
    : Type 0 where
  pub rows : Rows
  pub rows_are : IsParamsOf params rows
  pub told : IsToldOn wanted rows orders script status text

-- out of memory, or the first refusal: of the capture, or else of the order table, of the script, of what it leaves open
abbrev pub IsRefused : List ℕ → List ℕ → List ℕ → Fault → Type 0
IsRefused params orders script Memory = Unit {0}
IsRefused params orders script (Params f) = IsParamFault params f
IsRefused params orders script f = ((rows : Rows) × IsParamsOf params rows) × IsPlanRefusal orders script f

-- the texts are good, and by these rows there is no finding of this number
pub record LacksFinding (rows : Rows) (orders script : List ℕ) (number : ℕ) : Type 0 where
  pub value : ScriptValue
  pub plan : ArePlan orders script value
  pub none : HasNoFinding (record { rows = rows; orders = plan.table }) value number

-- out of memory, or the first refusal: of the order table, of the script, of what it leaves open, or else of the
-- number of the finding whose case is wanted
abbrev pub IsTellRefusalOn : Wanted → Rows → List ℕ → List ℕ → Fault → Type 0
IsTellRefusalOn wanted rows orders script (NoFinding number) =
    (wanted ≡ OneCase number) × LacksFinding rows orders script number
IsTellRefusalOn wanted rows orders script f = IsPlanRefusal orders script f

-- out of memory, or the first refusal: of the capture, or else of these
abbrev pub IsTellRefusal : Wanted → List ℕ → List ℕ → List ℕ → Fault → Type 0
IsTellRefusal wanted params orders script (NoFinding number) =
    (rows : Rows) × IsParamsOf params rows × IsTellRefusalOn wanted rows orders script (NoFinding number)
IsTellRefusal wanted params orders script f = IsRefused params orders script f

-- ---- of private contracts and proofs only

-- out of memory, or that by what is granted there is no finding of the number whose case is wanted
abbrev pub IsTellRefusalBy : Wanted → Granted → ScriptValue → Fault → Type 0
IsTellRefusalBy wanted granted script Memory = Unit {0}
IsTellRefusalBy wanted granted script (NoFinding number) =
    (wanted ≡ OneCase number) × HasNoFinding granted script number
IsTellRefusalBy wanted granted script _ = ⊥
