use Rattle.fints_check.proofs.LawLemmas.{one_bad_line}
use Rattle.fints_check.proofs.laws.one_bad_line.Goals as goal

pub returns : goal.returns
returns c = one_bad_line
