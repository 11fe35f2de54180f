use Rattle.fints_check_reach.specs.Walking.{HasWay, IsWayBack}
use Rattle.fints_check_reach.proofs.way.way_back.Given as goal

-- the steps so far lead back to this one, which has a way
abbrev pub invariant-loop-at : goal.invariant-loop-at
invariant-loop-at l = record {
  has_way : HasWay l.sources l.at;
  back : IsWayBack l.sources l.n l.later.items l.at;
}

abbrev pub decreases-loop-at : goal.decreases-loop-at
decreases-loop-at l = l.at
