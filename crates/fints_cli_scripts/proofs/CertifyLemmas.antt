-- What `certify` and `verify` print.
use Rattle.std.proofs.Common.{Result, Ok, Err, IfOk, ◌≡◌, ◌↔◌, ℕ, Bool, IsTrue, List, [], subst, inl}
use Rattle.fints_check.specs.Certificates.{line_figures, IsClosedCertificate, KeepsPromise}
use Rattle.fints_check.specs.CertTexts.{cert_text, IsCertificateOf}
use Rattle.fints_check.specs.declared.certificate.Line.{Line}
use Rattle.fints_check_findings.specs.Figures.{AreFigures}
use Rattle.fints_check_findings.specs.Findings.{AreFindings, EachIsPermitted}
use Rattle.fints_check_findings.specs.declared.finding.Finding.{Finding}
use Rattle.fints_params.specs.Parameters.{Rows}
use Rattle.fints_rules_permissions.specs.Permits.{Granted}
use Rattle.fints_rules_permissions.specs.declared.orders.OrderRow.{OrderRow}
use Rattle.fints_script.specs.Scripts.{ScriptValue}
use Rattle.fints_cli_scripts.specs.Certified.{IsCertifiedBy}
use Rattle.fints_cli_scripts.specs.Verified.{IsVerifiedBy, TellsWhether}

pub certified : (granted : Granted) (script : ScriptValue) (lines : List Line) (findings : List Finding)
    (status : ℕ) (text : List ℕ) → findings ≡ [] → AreFindings granted script findings
    → AreFigures script (line_figures lines) → IsClosedCertificate granted script lines
    → KeepsPromise script lines → EachIsPermitted granted script → status ≡ 0 → text ≡ cert_text lines
    → IsCertifiedBy granted script status text
certified granted script lines findings status text none are figures closed promise permitted zero same =
    inl (
      zero,
      record {
        lines = lines;
        clean = subst (λ (fs : List Finding). AreFindings granted script fs) none are;
        figures_are = figures;
        closed = closed;
        text_is = same;
        promise = promise;
        permitted = permitted;
      },
    )

-- what `verify` prints, by permissions that have these rows and this order table
pub verified_by : (p : Granted) (rows : Rows) (orders : List OrderRow) (script : ScriptValue)
    (lines : List Line) (certificate : List ℕ) (valid : Bool) (status : ℕ) (text : List ℕ) → p.rows ≡ rows
    → p.orders ≡ orders
    → IsCertificateOf certificate lines → IsTrue valid ↔ IsClosedCertificate p script lines
    → (IsTrue valid → KeepsPromise script lines) → (IsTrue valid → EachIsPermitted p script)
    → TellsWhether valid status text
    → IsVerifiedBy (record { rows = rows; orders = orders }) script certificate status text
verified_by p rows orders script lines certificate valid status text same table is closed promise permitted told =
    subst (λ (r : Rows). IsVerifiedBy (record { rows = r; orders = orders }) script certificate status text) same
    (subst (λ (o : List OrderRow). IsVerifiedBy (record { rows = p.rows; orders = o }) script certificate status text) table
    (record { lines = lines; certificate_is = is; valid = valid; closed = closed; told = told; promise = promise; permitted = permitted }))

-- two facts of an answer
pub both_ok : {X E : Type 0} (P Q R : X → Type 0) (r : Result X E) → IfOk r P → IfOk r Q
    → ((x : X) → P x → Q x → R x) → IfOk r R
both_ok P Q R (Ok x) p q h = h x p q
both_ok P Q R (Err e) p q h = tt
