use Rattle.fints_check.proofs.LawLemmas.{certificate_or_bad_line}
use Rattle.fints_check.proofs.laws.certificate_or_bad_line.Goals as goal

pub returns : goal.returns
returns c = certificate_or_bad_line
