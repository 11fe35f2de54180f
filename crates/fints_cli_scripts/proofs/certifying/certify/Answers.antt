use Rattle.std.proofs.Common.{rules, ◌≡◌, subst, List, [], Option}
use Rattle.std.specs.Prelude.{IfSome}
use Rattle.fints_check.specs.Certificates.{line_figures, IsClosedCertificate, KeepsPromise}
use Rattle.fints_check.specs.CertTexts.{cert_text}
use Rattle.fints_check.specs.declared.certificate.Line.{Line}
use Rattle.fints_check_findings.specs.Figures.{AreFigures}
use Rattle.fints_cli_texts.specs.declared.reply.Reply.{Reply}
use Rattle.fints_cli_scripts.specs.Certified.{IsCertifiedBy}
use Rattle.fints_cli_scripts.proofs.CertifyLemmas.{both_ok, certified}
use Rattle.fints_cli_scripts.proofs.certifying.certify.Goals as goal

pub returns-in-Some : goal.returns-in-Some
returns-in-Some c =
    let granted = c.args.report.now.granted in
    let script = c.args.report.now.plan.script in
    let findings = c.args.report.now.findings in
    let lines = c.in-Some.certificate in
    let none : findings ≡ [] = search rules in
    let closed =
    subst
    (λ (found : Option (List Line)).
    IfSome found (IsClosedCertificate granted c.args.report.now.plan.script))
    c.in-Some.is c.in_ok-certificate.ensures.closed in
    let figures =
    subst
    (λ (found : Option (List Line)).
    IfSome found
    (λ certificate. AreFigures c.args.report.now.plan.script (line_figures certificate)))
    c.in-Some.is c.in_ok-certificate.ensures.figures in
    let promise =
    subst
    (λ (found : Option (List Line)). IfSome found (KeepsPromise script))
    c.in-Some.is c.in_ok-certificate.ensures.promise in
    both_ok (λ (reply : Reply). reply.status ≡ 0) (λ (reply : Reply). reply.text.items ≡ cert_text lines)
    (λ (reply : Reply). IsCertifiedBy granted script reply.status reply.text.items)
    c.certificate_reply.result
    c.certificate_reply.ensures.status c.certificate_reply.ensures.text
    (λ reply zero same. certified granted script lines findings reply.status reply.text.items none
    c.in_ok-certificate.ensures.exactly figures closed promise (c.in_ok-certificate.ensures.permitted none) zero same)
