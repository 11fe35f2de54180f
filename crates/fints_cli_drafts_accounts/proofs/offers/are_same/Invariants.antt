use Rattle.std.proofs.Common.{◌≡◌, take}
use Rattle.fints_cli_drafts_accounts.proofs.offers.are_same.Given as goal

abbrev pub invariant-loop-i : goal.invariant-loop-i
invariant-loop-i l = take l.i l.own ≡ take l.i l.other
