use Rattle.std.proofs.Common.{◌∙◌, ap, Some}
use Rattle.std.specs.Option.{option_map}
use Rattle.fints_syntax.specs.Owned.{segment_of}
use Rattle.fints_rules_dialogues.specs.Parties.{party_in}
use Rattle.fints_rules_dialogues.proofs.PartyLemmas.{named_in}
use Rattle.fints_rules_dialogues.proofs.parties.party_named.Goals as goal

pub returns-in_ok-party_in-in-Some : goal.returns-in_ok-party_in-in-Some
returns-in_ok-party_in-in-Some c =
    ap Some c.in_ok-party_in-in-Some.ensures
    ∙ ap (λ o. option_map (λ s. party_in (segment_of s)) o) (rw c.in-Some.is at c.hkidn_in.ensures)
    ∙ named_in c.body.result.now c.args.message.now.body c.body.ensures.segments

pub returns-in-None : goal.returns-in-None
returns-in-None c =
    ap (λ o. option_map (λ s. party_in (segment_of s)) o) (rw c.in-None.is at c.hkidn_in.ensures)
    ∙ named_in c.body.result.now c.args.message.now.body c.body.ensures.segments
