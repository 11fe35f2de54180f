use Rattle.std.proofs.Common.{length}
use Rattle.fints_check_reach.specs.Walking.{IsWayBack}
use Rattle.fints_check_reach.specs.Ways.{EntersTo}
use Rattle.fints_check_reach.proofs.way.way_into.Given as goal

-- the answers lead to the first message of this step, and the rest of the way is still to go
abbrev pub invariant-loop-next : goal.invariant-loop-next
invariant-loop-next l = record {
  so_far : EntersTo l.way.plan.now.script.steps l.way.numbers.now.greatest.items l.at l.answers.items;
  rest : IsWayBack l.way.numbers.now.sources.items l.way.n l.later.items l.at;
}

abbrev pub decreases-loop-next : goal.decreases-loop-next
decreases-loop-next l = length l.later.items
