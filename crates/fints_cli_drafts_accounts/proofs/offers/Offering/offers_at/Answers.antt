use Rattle.std.proofs.Common.{get_or, subst}
use Rattle.std.proofs.lemmas.Option.{slice_get-get_or}
use Rattle.std.proofs.lemmas.Result.{on_ok_weaker}
use Rattle.fints_rules_dialogues.specs.declared.reading.Exchange.{Exchange}
use Rattle.fints_rules_permissions.specs.Permits.{Granted}
use Rattle.fints_cli_drafts_accounts.specs.Offers.{IsListIn, IsOfferBy}
use Rattle.fints_cli_drafts_accounts.proofs.OfferLemmas.{adds_wider}
use Rattle.fints_cli_drafts_accounts.proofs.offers.Offering.offers_at.Goals as goal

pub returns-then-place-exchanges : goal.returns-then-place-exchanges
returns-then-place-exchanges c =
    let exchanges = c.args.exchanges.now in
    let bases = c.args.bases.now in
    let place = c.args.place in
    let exchange : Exchange = get_or exchanges place c.index-exchanges-place.result in
    let permitted : Granted = get_or bases place c.index-bases-place.result in
    on_ok_weaker c.offers_in.result
    (adds_wider (IsListIn c.index-bases-place.result exchange.message) (IsOfferBy exchanges bases)
    (λ list is. record {
      place = place;
      exchange = exchange;
      is_at = slice_get-get_or exchanges place c.index-exchanges-place.result c.if-place-exchanges.true;
      permitted = permitted;
      is_permitted = slice_get-get_or bases place c.index-bases-place.result c.if-place-bases.true;
      list_in = subst (λ g. IsListIn g exchange.message list) c.index-bases-place.is is;
    })
    c.args.self.now.lists.items c.offers_in.new.self.lists.items)
    c.offers_in.ensures
