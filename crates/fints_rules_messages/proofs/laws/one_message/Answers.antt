use Rattle.fints_rules_messages.proofs.LawLemmas.{one_message}
use Rattle.fints_rules_messages.proofs.laws.one_message.Goals as goal

pub returns : goal.returns
returns c = one_message
