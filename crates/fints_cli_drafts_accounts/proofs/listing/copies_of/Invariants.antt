use Rattle.std.proofs.Common.{◌≡◌, take}
use Rattle.fints_cli_drafts_accounts.proofs.listing.copies_of.Given as goal

abbrev pub invariant-loop-item : goal.invariant-loop-item
invariant-loop-item l = l.copies.items ≡ take l.item-index l.items
