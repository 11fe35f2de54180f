use Rattle.std.proofs.Common.{◌≡◌, ◌++◌}
use Rattle.std.specs.Prelude.{replicate}
use Rattle.fints_rules_logs.proofs.decoding.filled.Given as goal

abbrev pub invariant-loop : goal.invariant-loop
invariant-loop l = l.filled.items ≡ l.fn.letters.items ++ replicate l.counter 65
