use Rattle.std.proofs.Common.{◌≡◌, sym, subst}
use Rattle.fints_cli_drafts_accounts.specs.Offers.{IsListOf}
use Rattle.fints_cli_drafts_accounts.specs.declared.listing.AccountList.{AccountList}
use Rattle.fints_cli_drafts_accounts.proofs.OfferLemmas.{adds_wider}
use Rattle.fints_cli_drafts_accounts.proofs.offers.Offering.ask.Goals as goal

pub returns : goal.returns
returns c =
    let list : AccountList = c.in-Some.list in
    let is_list : IsListOf c.args.basis.now c.args.signatures list c.args.segment.now = record {
      all = rw (c.permissions.ensures, c.in-Some.is) at c.in_ok-list.ensures.all;
      each = rw (c.permissions.ensures, c.in-Some.is) at c.in_ok-list.ensures.each;
    } in
    adds_wider (λ added. added ≡ list) (λ added. IsListOf c.args.basis.now c.args.signatures added c.args.segment.now)
    (λ added same. subst (λ l. IsListOf c.args.basis.now c.args.signatures l c.args.segment.now) (sym same) is_list)
    c.args.self.now.lists.items c.add.new.self.lists.items c.in_ok-add.ensures
