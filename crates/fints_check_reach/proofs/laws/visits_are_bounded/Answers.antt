use Rattle.fints_check_reach.proofs.LawLemmas.{visits_are_bounded_most, visits_are_bounded_least}
use Rattle.fints_check_reach.proofs.laws.visits_are_bounded.Goals as goal

pub returns-clause-most : goal.returns-clause-most
returns-clause-most c = visits_are_bounded_most

pub returns-clause-least : goal.returns-clause-least
returns-clause-least c = visits_are_bounded_least
