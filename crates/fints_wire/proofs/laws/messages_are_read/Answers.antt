use Rattle.fints_wire.proofs.LawLemmas.{messages_are_read}
use Rattle.fints_wire.proofs.laws.messages_are_read.Goals as goal

pub returns : goal.returns
returns c = messages_are_read
