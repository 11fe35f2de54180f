use Rattle.fints_check_reach.proofs.LawLemmas.{closed_numbers_bound}
use Rattle.fints_check_reach.proofs.laws.closed_numbers_bound.Goals as goal

pub returns : goal.returns
returns c = closed_numbers_bound
