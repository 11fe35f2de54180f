use Rattle.fints_wire.proofs.RunLawLemmas.{routes_send}
use Rattle.fints_wire.proofs.run_laws.routes_send.Goals as goal

pub returns : goal.returns
returns c = routes_send
