use Rattle.std.proofs.Common.{◌≤◌, [], drop, length}
use Rattle.fints_rules_dialogues.specs.Sources.{HoldsNearest}
use Rattle.fints_rules_dialogues.proofs.sources.first_sources.Given as goal

abbrev pub invariant-loop-at : goal.invariant-loop-at
invariant-loop-at l = (l.at ≤ length l.all) × HoldsNearest l.side [] (drop l.at l.all) l.sources

abbrev pub decreases-loop-at : goal.decreases-loop-at
decreases-loop-at l = l.at
