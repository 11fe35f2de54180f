use Rattle.fints_check_reach.proofs.Raising.{SoFar}
use Rattle.fints_check_reach.proofs.passing.raise_targets.Given as goal

-- the number was kept for the targets of the open branches so far, and for nothing else
abbrev pub invariant-loop-b : goal.invariant-loop-b
invariant-loop-b l = SoFar l.step l.fn.entries.items l.entries.items l.fn.sources.items l.sources.items l.b l.number l.n
