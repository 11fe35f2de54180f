use Rattle.std.proofs.Common.{◌≤◌, ◌<◌, ℕ}
use Rattle.fints_rules_logs.specs.Standing.{EndsAs}
use Rattle.fints_rules_logs.proofs.end.ends_well.Given as goal

abbrev pub invariant-loop-message_len : goal.invariant-loop-message_len
invariant-loop-message_len l =
    (number message : ℕ) → 1 ≤ number → number ≤ 3 → 1 ≤ message → message < l.message_len
    → EndsAs l.bytes number message → ⊥
