use Rattle.std.proofs.Common.{◌≤◌, length, take}
use Rattle.std.specs.List.{AllZip}
use Rattle.fints_cli_drafts_alike.specs.Alike.{IsOuterAlike}
use Rattle.fints_cli_drafts_alike.proofs.comparing.other_outer.Given as goal

abbrev pub invariant-loop-i : goal.invariant-loop-i
invariant-loop-i l = (l.i ≤ length l.sent) × AllZip IsOuterAlike (take l.i l.own) (take l.i l.sent)
