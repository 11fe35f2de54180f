use Rattle.fints_check.proofs.LawLemmas.{one_certificate}
use Rattle.fints_check.proofs.laws.one_certificate.Goals as goal

pub returns : goal.returns
returns c = one_certificate
