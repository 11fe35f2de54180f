use Rattle.std.proofs.Common.{rules, ◌≡◌, ◌∙◌, [], ◌∷◌, List, arith, length, refl, sym, subst}
use Rattle.std.proofs.lemmas.Bool.Decides.{nat_tests}
use Rattle.fints_check_findings.specs.Findings.{AreFindings}
use Rattle.fints_check_findings.specs.declared.finding.Finding.{Finding}
use Rattle.fints_check.specs.Certificates.{IsClosedCertificate, KeepsPromise}
use Rattle.fints_check.specs.CertTexts.{IsCertificate}
use Rattle.fints_check.proofs.LawLemmas.{closed_promises_promise, greatest_are_readable, greatest_closes}
use Rattle.fints_script.proofs.LawLemmas.{sound_of}
use Rattle.fints_check.proofs.making.ReportCertified.certificate.Goals as goal

empty_of : {X : Type 0} (xs : List X) → length xs ≡ 0 → xs ≡ []
empty_of [] h = refl
empty_of (x ∷ xs) h = absurd (omega (arith, h))

pub returns-clause-clean : goal.returns-clause-clean
returns-clause-clean c =
    let len : length c.findings.result.now ≡ 0 = grind (arith, nat_tests, c.if-not-is_empty.ensures) in
    (λ _. sym c.findings.ensures.findings ∙ empty_of c.findings.result.now len, λ _. refl)

pub returns-clause-closed : goal.returns-clause-closed
returns-clause-closed c =
    let granted = c.args.self.now.granted in
    let script = c.args.self.now.plan.script in
    let none = (returns-clause-clean c).0 refl in
    subst (IsClosedCertificate granted script) (sym c.new.ensures)
    (greatest_closes granted script c.in_ok-lines.lines.items (sound_of c.in_ok-lines.ensures.read)
    c.in_ok-lines.ensures.names c.in_ok-lines.ensures.figures
    (subst (λ (fs : List Finding). AreFindings granted script fs) none c.findings.ensures.exactly)
    (c.findings.ensures.clean none) (c.findings.ensures.released none))

pub returns-clause-promise : goal.returns-clause-promise
returns-clause-promise c =
    closed_promises_promise c.args.self.now.granted c.args.self.now.plan.script c.new.result
    (sound_of c.in_ok-lines.ensures.read) (returns-clause-closed c)

pub returns-clause-readable : goal.returns-clause-readable
returns-clause-readable c =
    let script = c.args.self.now.plan.script in
    subst IsCertificate (sym c.new.ensures)
    (greatest_are_readable script c.in_ok-lines.lines.items (sound_of c.in_ok-lines.ensures.read)
    c.in_ok-lines.ensures.names c.in_ok-lines.ensures.are_names c.in_ok-lines.ensures.figures)

pub returns-clause-figures : goal.returns-clause-figures
returns-clause-figures c = search rules
