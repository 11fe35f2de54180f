use Rattle.std.proofs.Common.{◌≤◌, ◌<◌, ℕ}
use Rattle.fints_rules_logs.specs.Standing.{EndsAs}
use Rattle.fints_rules_logs.proofs.end.ends_with_message.Given as goal

abbrev pub invariant-loop-number_len : goal.invariant-loop-number_len
invariant-loop-number_len l =
    (n : ℕ) → 1 ≤ n → n < l.number_len → EndsAs l.bytes n l.message_len → ⊥
