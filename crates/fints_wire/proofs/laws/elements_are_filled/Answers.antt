use Rattle.fints_wire.proofs.LawLemmas.{elements_are_filled_values, elements_are_filled_literal}
use Rattle.fints_wire.proofs.laws.elements_are_filled.Goals as goal

pub returns-clause-values : goal.returns-clause-values
returns-clause-values c = elements_are_filled_values

pub returns-clause-literal : goal.returns-clause-literal
returns-clause-literal c = elements_are_filled_literal
