-- What `certify` prints of a script: its certificate, or else the report.
use Rattle.std.specs.Prelude.{◌≡◌, ◌⊎◌, ℕ, List, []}
use Rattle.fints_check.specs.Certificates.{line_figures, IsClosedCertificate, KeepsPromise}
use Rattle.fints_check.specs.CertTexts.{cert_text}
use Rattle.fints_check.specs.declared.certificate.Line.{Line}
use Rattle.fints_check_findings.specs.Figures.{AreFigures}
use Rattle.fints_check_findings.specs.Findings.{AreFindings, EachIsPermitted}
use Rattle.fints_cli_scripts.specs.ReportText.{IsReportBy}
use Rattle.fints_rules_permissions.specs.Permits.{Granted}
use Rattle.fints_script.specs.Scripts.{ScriptValue}

-- nothing is found, and the text is that of a closed certificate with the greatest figures, which keeps its promise; and each message of each run is permitted
pub record IsCertificateBy (granted : Granted) (script : ScriptValue) (text : List ℕ) : Type 0 where
  pub lines : List Line
  pub clean : AreFindings granted script []
  pub figures_are : AreFigures script (line_figures lines)
  pub closed : IsClosedCertificate granted script lines
  pub text_is : text ≡ cert_text lines
  pub promise : KeepsPromise script lines
  pub permitted : EachIsPermitted granted script

-- with status 0 the certificate, with status 1 the report and its findings
abbrev pub IsCertifiedBy : Granted → ScriptValue → ℕ → List ℕ → Type 0
IsCertifiedBy granted script status text =
    ((status ≡ 0) × IsCertificateBy granted script text)
    ⊎ ((status ≡ 1) × IsReportBy granted script status text)
