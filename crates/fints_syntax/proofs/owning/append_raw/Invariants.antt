use Rattle.std.proofs.Common.{◌≡◌, ◌++◌}
use Rattle.fints_syntax.proofs.owning.append_raw.Given as goal

abbrev pub invariant-loop-b : goal.invariant-loop-b
invariant-loop-b l = l.out.items ≡ l.initial.out.items ++ l.yielded
