use Rattle.fints_wire.proofs.RunLawLemmas.{visits_are_repeated}
use Rattle.fints_wire.proofs.run_laws.visits_are_repeated.Goals as goal

pub returns : goal.returns
returns c = visits_are_repeated
