use Rattle.std.proofs.Common.{◌∙◌, ap, Option}
use Rattle.std.specs.Option.{option_and_then, option_map}
use Rattle.fints_rules_dialogues.specs.Sources.{user_of}
use Rattle.fints_rules_dialogues.specs.declared.sources.Granting.{Granting}
use Rattle.fints_rules_dialogues.proofs.sources.user_at.Goals as goal

pub returns-in-Some : goal.returns-in-Some
returns-in-Some c before after h =
    c.boxed_in.ensures
    ∙ ap (λ (o : Option Granting). option_and_then user_of o)
    (ap (λ o. option_map (λ x. x.now) o) c.in-Some.ensures.value ∙ h c.args.party.now c.key_of.result c.key_of.ensures)

pub returns-in-None : goal.returns-in-None
returns-in-None c before after h =
    ap (λ (o : Option Granting). option_and_then user_of o)
    (ap (λ o. option_map (λ x. x.now) o) c.in-None.ensures.value ∙ h c.args.party.now c.key_of.result c.key_of.ensures)
