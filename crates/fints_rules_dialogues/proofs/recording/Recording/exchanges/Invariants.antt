use Rattle.std.proofs.Common.{◌-◌, length}
use Rattle.fints_rules_dialogues.proofs.Turns.{AreReadSoFar}
use Rattle.fints_rules_dialogues.proofs.recording.Recording.exchanges.Given as goal

abbrev pub invariant-loop-at : goal.invariant-loop-at
invariant-loop-at g l = AreReadSoFar l.messages l.at l.exchanges.items

abbrev pub decreases-loop-at : goal.decreases-loop-at
decreases-loop-at g l = length l.messages - l.at
