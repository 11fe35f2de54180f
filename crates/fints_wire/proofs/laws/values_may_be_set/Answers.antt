use Rattle.fints_wire.proofs.LawLemmas.{values_may_be_set_admitted, values_may_be_set_items}
use Rattle.fints_wire.proofs.laws.values_may_be_set.Goals as goal

pub returns-clause-admitted : goal.returns-clause-admitted
returns-clause-admitted c = values_may_be_set_admitted

pub returns-clause-items : goal.returns-clause-items
returns-clause-items c = values_may_be_set_items
