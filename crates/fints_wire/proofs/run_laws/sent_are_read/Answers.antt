use Rattle.fints_wire.proofs.RunLawLemmas.{sent_are_read}
use Rattle.fints_wire.proofs.run_laws.sent_are_read.Goals as goal

pub returns : goal.returns
returns c = sent_are_read
