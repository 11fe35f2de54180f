use Rattle.fints_check_findings.proofs.LawLemmas.{release_is_left}
use Rattle.fints_check_findings.proofs.laws.release_is_left.Goals as goal

pub returns : goal.returns
returns c = release_is_left
