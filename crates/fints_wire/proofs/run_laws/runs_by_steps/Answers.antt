use Rattle.fints_wire.proofs.RunLawLemmas.{runs_by_steps}
use Rattle.fints_wire.proofs.run_laws.runs_by_steps.Goals as goal

pub returns : goal.returns
returns c = runs_by_steps
