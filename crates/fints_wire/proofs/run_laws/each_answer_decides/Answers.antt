use Rattle.fints_wire.proofs.RunLawLemmas.{each_answer_decides_some, each_answer_decides_not_both}
use Rattle.fints_wire.proofs.run_laws.each_answer_decides.Goals as goal

pub returns-clause-some : goal.returns-clause-some
returns-clause-some c = each_answer_decides_some

pub returns-clause-not_both : goal.returns-clause-not_both
returns-clause-not_both c = each_answer_decides_not_both
