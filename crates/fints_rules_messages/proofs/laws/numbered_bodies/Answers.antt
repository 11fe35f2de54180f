use Rattle.fints_rules_messages.proofs.LawLemmas.{numbered_bodies}
use Rattle.fints_rules_messages.proofs.laws.numbered_bodies.Goals as goal

pub returns : goal.returns
returns c = numbered_bodies
