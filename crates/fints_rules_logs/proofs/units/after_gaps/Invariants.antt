use Rattle.std.proofs.Common.{◌≡◌, ◌≤◌, length}
use Rattle.fints_rules_logs.specs.Forms.{after_gaps}
use Rattle.fints_rules_logs.proofs.units.after_gaps.Given as goal

abbrev pub invariant-loop-rest : goal.invariant-loop-rest
invariant-loop-rest l = record {
  within : length l.rest ≤ length l.text;
  rest : after_gaps l.rest ≡ after_gaps l.text;
}

abbrev pub decreases-loop-rest : goal.decreases-loop-rest
decreases-loop-rest l = length l.rest
