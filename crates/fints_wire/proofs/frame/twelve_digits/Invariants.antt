use Rattle.std.proofs.Common.{◌≡◌, replicate}
use Rattle.fints_wire.proofs.frame.twelve_digits.Given as goal

abbrev pub invariant-loop : goal.invariant-loop
invariant-loop l = l.digits.items ≡ replicate l.counter 48
