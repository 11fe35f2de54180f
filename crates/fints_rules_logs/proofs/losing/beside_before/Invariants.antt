use Rattle.std.proofs.Common.{◌≡◌, ◌<◌, ◌-◌, ℕ, length, get_or}
use Rattle.std.specs.Prelude.{false}
use Rattle.fints_rules_logs.specs.Kept.{IsBesideBefore}
use Rattle.fints_rules_logs.proofs.losing.beside_before.Given as goal

abbrev pub invariant-loop-place : goal.invariant-loop-place
invariant-loop-place l = record {
  len : length l.flags.items ≡ l.place;
  each : (place : ℕ) → place < l.place → IsBesideBefore l.finds place (get_or l.flags.items place false);
  last : 0 < l.place → IsBesideBefore l.finds (l.place - 1) l.flag;
}
