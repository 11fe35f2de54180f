use Rattle.fints_rules_messages.proofs.LawLemmas.{message_or_stop}
use Rattle.fints_rules_messages.proofs.laws.message_or_stop.Goals as goal

pub returns : goal.returns
returns c = message_or_stop
