use Rattle.std.proofs.Common.{◌≡◌, ◌∙◌, ap, map}
use Rattle.fints_rules_messages.specs.Messages.{MessageView}
use Rattle.fints_rules.specs.Facts.{six_items}
use Rattle.fints_rules.specs.Tallies.{TallyValue, counts_in}
use Rattle.fints_rules.proofs.ViewLemmas.{facts_at}
use Rattle.fints_rules.proofs.tally.Tally.segment.Goals as goal

pub returns : goal.returns
returns c s at =
    let message : c.self.inside.message.now ≡ c.args.self.now.message =
    ap (λ (t : TallyValue). t.message) c.self.view_is in
    let body = c.body.ensures.segments ∙ ap (λ (m : MessageView). m.body) message in
    let leading = c.self.invariant.2 ∙ ap (λ (m : MessageView). map six_items m.body) message in
    let counts = c.self.invariant.0 ∙ ap (λ (m : MessageView). counts_in m.body m.body) message in
    let made = rw c.values-items.ensures at c.new.ensures in
    made
    ∙ facts_at c.args.self.now.message c.body.result.now c.args.place c.index-body-place.result
    c.head-head.result s c.self.inside.leading.items c.index.result.now c.self.inside.counts.items c.index-2.result.now body c.requires c.index-body-place.is at
    c.head-head.ensures.head leading c.index.ensures counts c.index-2.ensures
