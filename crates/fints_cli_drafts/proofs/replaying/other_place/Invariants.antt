use Rattle.std.proofs.Common.{take}
use Rattle.fints_cli_drafts.specs.Drafts.{AreSentAgain}
use Rattle.fints_cli_drafts.proofs.replaying.other_place.Given as goal

abbrev pub invariant-loop-i : goal.invariant-loop-i
invariant-loop-i l = AreSentAgain (take l.i l.exchanges) (take l.i l.sent)
