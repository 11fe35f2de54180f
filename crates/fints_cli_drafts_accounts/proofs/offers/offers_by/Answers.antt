use Rattle.fints_cli_drafts_accounts.specs.Offers.{IsOfferBy}
use Rattle.fints_cli_drafts_accounts.proofs.OfferLemmas.{adds_more}
use Rattle.fints_cli_drafts_accounts.proofs.offers.offers_by.Goals as goal

pub loop-i-preserved : goal.loop-i-preserved
loop-i-preserved c =
    adds_more (IsOfferBy c.args.exchanges.now c.args.bases.now) c.new.result.items c.loop-i.offering.lists.items
    c.offers_at.new.self.lists.items c.loop-i.invariant c.in_ok-offers_at.ensures
