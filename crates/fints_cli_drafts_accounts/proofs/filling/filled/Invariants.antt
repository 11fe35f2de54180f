use Rattle.std.proofs.Common.{◌≡◌, take}
use Rattle.fints_cli_drafts_accounts.specs.Accounts.{filled_items, row_items}
use Rattle.fints_cli_drafts_accounts.proofs.filling.filled.Given as goal

abbrev pub invariant-loop-i : goal.invariant-loop-i
invariant-loop-i l = l.items.items ≡ filled_items (take l.i l.recorded) (row_items l.form l.row)
