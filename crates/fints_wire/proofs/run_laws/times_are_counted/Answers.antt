use Rattle.fints_wire.proofs.RunLawLemmas.{times_are_counted}
use Rattle.fints_wire.proofs.run_laws.times_are_counted.Goals as goal

pub returns : goal.returns
returns c = times_are_counted
