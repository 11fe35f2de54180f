use Rattle.std.proofs.Common.{◌≤◌, ◌<◌, length}
use Rattle.fints_rules_logs.specs.Kept.{IsBesideAfter}
use Rattle.fints_rules_logs.proofs.LostLemmas.{IsLostFrom}
use Rattle.fints_rules_logs.proofs.losing.first_lost.Given as goal

abbrev pub invariant-loop-place : goal.invariant-loop-place
invariant-loop-place l = record {
  within : l.place ≤ length l.finds;
  after : l.place < length l.finds → IsBesideAfter l.finds l.place l.after;
  lost : IsLostFrom l.finds l.place l.lost;
}

abbrev pub decreases-loop-place : goal.decreases-loop-place
decreases-loop-place l = l.place
