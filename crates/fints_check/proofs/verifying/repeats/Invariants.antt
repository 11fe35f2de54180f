use Rattle.std.proofs.Common.{ℕ, ◌≡◌, ◌↔◌, ◌<◌, length, true, Some, slice_get}
use Rattle.fints_script.specs.Steps.{StepValue}
use Rattle.fints_script_cases.specs.declared.answers.Target.TheVariants.{Again}
use Rattle.fints_script_cases.specs.Answers.{IsOpenTo}
use Rattle.fints_script_rows.specs.declared.limits.TheConstants.{MAX_STEPS}
use Rattle.fints_check.proofs.verifying.repeats.Given as goal

-- the flags so far
abbrev pub invariant-loop-i : goal.invariant-loop-i
invariant-loop-i l = record {
  long : length l.flags ≡ MAX_STEPS;
  each : (k : ℕ) (step : StepValue) → k < l.i → slice_get l.plan.script.steps k ≡ Some step
      → (slice_get l.flags k ≡ Some true) ↔ IsOpenTo step.branches step.otherwise Again;
}
