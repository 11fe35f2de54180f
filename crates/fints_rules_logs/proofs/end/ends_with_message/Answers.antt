use Rattle.std.proofs.Common.{arith}
use Rattle.fints_rules_logs.proofs.end.ends_with_message.Goals as goal

pub returns-clause-no : goal.returns-clause-no
returns-clause-no c =
    λ is n some most e.
    c.loop-number_len.invariant n some (omega (arith, most, c.loop-number_len-test.false)) e
