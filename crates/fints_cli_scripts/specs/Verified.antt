-- What `verify` prints of a certificate, and why nothing is. What only private contracts and proofs use comes last, under a heading.
use Rattle.std.specs.Prelude.{◌≡◌, ◌↔◌, ℕ, Bool, true, false, IsTrue, List, codes}
use Rattle.fints_check.specs.Certificates.{IsClosedCertificate, KeepsPromise}
use Rattle.fints_check_findings.specs.Findings.{EachIsPermitted}
use Rattle.fints_check.specs.CertTexts.{IsCertificateOf, IsFirstBadCertLine}
use Rattle.fints_check.specs.declared.certificate.Line.{Line}
use Rattle.fints_params.specs.Captures.{IsParamsOf}
use Rattle.fints_params.specs.Parameters.{Rows}
use Rattle.fints_cli_scripts.specs.Plans.{ArePlan, IsPlanRefusal}
use Rattle.fints_cli_scripts.specs.Told.{IsRefused}
use Rattle.fints_rules_permissions.specs.Permits.{Granted}
use Rattle.fints_script.specs.Scripts.{ScriptValue}
use Rattle.fints_cli_texts.specs.declared.fault.Fault.{Fault}
use Rattle.fints_cli_texts.specs.declared.fault.Fault.TheVariants.{Certificate, Memory}

-- ---- what is said of a certificate

-- whether it is so, in a word and a status
abbrev pub TellsWhether : Bool → ℕ → List ℕ → Type 0
TellsWhether true status text = (status ≡ 0) × (text ≡ codes "valid\n")
TellsWhether false status text = (status ≡ 1) × (text ≡ codes "invalid\n")

-- the text of a certificate is good, and the status and the text say whether it is closed; where they say
-- `valid` it keeps its promise, and each message of each run is permitted
pub record IsVerifiedBy (granted : Granted) (script : ScriptValue) (certificate : List ℕ) (status : ℕ)
    (text : List ℕ) : Type 0 where
  pub lines : List Line
  pub certificate_is : IsCertificateOf certificate lines
  pub valid : Bool
  pub closed : IsTrue valid ↔ IsClosedCertificate granted script lines
  pub told : TellsWhether valid status text
  pub promise : IsTrue valid → KeepsPromise script lines
  pub permitted : IsTrue valid → EachIsPermitted granted script

-- they say it by these rows of parameters and the texts of an order table and of a script
pub record IsVerifiedOn (rows : Rows) (orders script certificate : List ℕ) (status : ℕ) (text : List ℕ)
    : Type 0 where
  pub value : ScriptValue
  pub plan : ArePlan orders script value
  pub told : IsVerifiedBy (record { rows = rows; orders = plan.table }) value certificate status text

-- they say it by a capture and these texts
pub record IsVerifiedOf (params orders script certificate : List ℕ) (status : ℕ) (text : List ℕ)
    : Type 0 where
  pub rows : Rows
  pub rows_are : IsParamsOf params rows
  pub told : IsVerifiedOn rows orders script certificate status text

-- ---- why nothing is

-- out of memory, or the first refusal: of the order table, of the script, of what it leaves open, or else of the certificate
abbrev pub IsVerifyRefusal : List ℕ → List ℕ → List ℕ → Fault → Type 0
IsVerifyRefusal orders script certificate (Certificate line) =
    ((value : ScriptValue) × ArePlan orders script value) × IsFirstBadCertLine certificate line
IsVerifyRefusal orders script certificate f = IsPlanRefusal orders script f

-- out of memory, or the first refusal: of the capture, or else of the others
abbrev pub IsUnverified : List ℕ → List ℕ → List ℕ → List ℕ → Fault → Type 0
IsUnverified params orders script certificate (Certificate line) =
    ((rows : Rows) × IsParamsOf params rows) × IsVerifyRefusal orders script certificate (Certificate line)
IsUnverified params orders script certificate f = IsRefused params orders script f

-- ---- of private contracts and proofs only

-- out of memory, or the first line that is no line of a certificate there
abbrev pub IsCertificateRefusal : List ℕ → Fault → Type 0
IsCertificateRefusal certificate Memory = Unit {0}
IsCertificateRefusal certificate (Certificate line) = IsFirstBadCertLine certificate line
IsCertificateRefusal certificate _ = ⊥
