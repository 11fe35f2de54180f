use Rattle.fints_cli_drafts_accounts.specs.Offers.{Adds, IsOfferBy}
use Rattle.fints_cli_drafts_accounts.proofs.offers.offers_by.Given as goal

abbrev pub invariant-loop-i : goal.invariant-loop-i
invariant-loop-i l =
    Adds (IsOfferBy l.exchanges l.bases) l.initial.offering.lists.items l.offering.lists.items
