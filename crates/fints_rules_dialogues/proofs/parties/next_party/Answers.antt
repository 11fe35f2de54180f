use Rattle.std.proofs.Common.{◌∙◌, sym}
use Rattle.fints_rules_dialogues.proofs.PartyLemmas.{next_named, next_unnamed}
use Rattle.fints_rules_dialogues.proofs.parties.next_party.Goals as goal

pub returns-in_ok-new-in-Some : goal.returns-in_ok-new-in-Some
returns-in_ok-new-in-Some c before after h =
    c.in_ok-new-in-Some.ensures.ok ∙ next_named before c.args.exchange.now after c.in-Some.named
    (sym c.in_ok-named.ensures ∙ c.in-Some.is)

pub returns-in-None : goal.returns-in-None
returns-in-None c before after h = next_unnamed before c.args.exchange.now after _ (sym c.in_ok-named.ensures ∙ c.in-None.is) h
