use Rattle.std.proofs.Common.{◌≢◌, take}
use Rattle.std.specs.BTreeSet.{contains}
use Rattle.std.specs.List.{AllPairs}
use Rattle.fints_script_fields.proofs.KeyedSteps.{HoldsKeys, key_cmp}
use Rattle.fints_script_fields.proofs.listed.are_distinct.Given as goal

abbrev pub invariant-loop-value : goal.invariant-loop-value
invariant-loop-value g l = record {
  keys : HoldsKeys g.T.Listed.text g.T.Listed.count (take l.value-index l.values) (contains key_cmp l.seen);
  apart : AllPairs (λ u v. u ≢ v) (take l.value-index l.values);
}
