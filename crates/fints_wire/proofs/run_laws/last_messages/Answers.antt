use Rattle.fints_wire.proofs.RunLawLemmas.{last_messages}
use Rattle.fints_wire.proofs.run_laws.last_messages.Goals as goal

pub returns : goal.returns
returns c = last_messages
