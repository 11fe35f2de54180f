use Rattle.std.proofs.Common.{◌≡◌, replicate, None}
use Rattle.fints_check_reach.proofs.passing.blank.Given as goal

abbrev pub invariant-loop-i : goal.invariant-loop-i
invariant-loop-i g l = l.cells.items ≡ replicate l._i None
