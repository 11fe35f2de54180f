use Rattle.fints_wire.proofs.RunLawLemmas.{routes_grow_more}
use Rattle.fints_wire.proofs.run_laws.routes_grow.Goals as goal

pub returns-clause-more : goal.returns-clause-more
returns-clause-more c = routes_grow_more
