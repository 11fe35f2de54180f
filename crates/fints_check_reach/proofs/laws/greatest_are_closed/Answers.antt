use Rattle.fints_check_reach.proofs.LawLemmas.{greatest_are_closed}
use Rattle.fints_check_reach.proofs.laws.greatest_are_closed.Goals as goal

pub returns : goal.returns
returns c = greatest_are_closed
