use Rattle.std.proofs.Common.{◌≤◌, ◌<◌, ◌+◌, ℕ}
use Rattle.fints_cli_drafts_alike.specs.Alike.{IsElementAlike}
use Rattle.fints_cli_drafts_alike.proofs.comparing.is_renewal.Given as goal

abbrev pub invariant-loop-i : goal.invariant-loop-i
invariant-loop-i l = (element : ℕ) → 2 ≤ element → element < 2 + l.i → IsElementAlike l.own l.sent element
