use Rattle.std.proofs.Common.{◌≢◌, take}
use Rattle.std.specs.List.{AllPairs}
use Rattle.fints_script_fields.proofs.listed.are_few_distinct.Given as goal

abbrev pub invariant-loop-i : goal.invariant-loop-i
invariant-loop-i g l = AllPairs (λ u v. u ≢ v) (take l.i l.values)
