use Rattle.std.proofs.Common.{◌≤◌, length, take}
use Rattle.std.specs.List.{AllZip}
use Rattle.fints_cli_drafts_alike.specs.Alike.{IsSegmentAlike}
use Rattle.fints_cli_drafts_alike.proofs.comparing.other_segment.Given as goal

abbrev pub invariant-loop-i : goal.invariant-loop-i
invariant-loop-i l = (l.i ≤ length l.sent) × AllZip IsSegmentAlike (take l.i l.own) (take l.i l.sent)
