use Rattle.std.proofs.Common.{[], sym, subst}
use Rattle.fints_syntax_texts.specs.Lines.{BeginsText}
use Rattle.fints_check.specs.CertTexts.{AreCertLines, cert_lines}
use Rattle.fints_check.proofs.CertReads.{are_texts, begins, none_begun}
use Rattle.fints_check.proofs.certificate.Certificate.read.Goals as goal

pub read_lines-requires-clause-texts : goal.read_lines-requires-clause-texts
read_lines-requires-clause-texts c = are_texts

pub read_lines-requires-clause-begins : goal.read_lines-requires-clause-begins
read_lines-requires-clause-begins c =
    subst (λ v. BeginsText AreCertLines (cert_lines v)) (sym c.new.ensures.items) (begins [] none_begun)
