use Rattle.std.proofs.Common.{◌+◌, ◌≤◌, take}
use Rattle.fints_cli_drafts_accounts.specs.Walks.{Holds, asked_of}
use Rattle.fints_cli_drafts_accounts.proofs.listing.list_of.Given as goal

abbrev pub invariant-loop-row : goal.invariant-loop-row
invariant-loop-row l = record {
  holds : Holds (asked_of l.order) (take l.row-index l.order.permissions.now.rows.accounts) l.walk;
  bound : l.walk.list.left_out + l.walk.list.further ≤ l.row-index;
}
