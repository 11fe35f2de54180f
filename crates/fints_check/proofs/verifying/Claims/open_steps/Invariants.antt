use Rattle.std.proofs.Common.{ℕ, ◌≡◌, ◌<◌, Some}
use Rattle.fints_script.specs.Numbered.{numbered}
use Rattle.fints_script.specs.Steps.{StepValue}
use Rattle.fints_check.specs.Verifying.{IsStepClosed}
use Rattle.fints_check.proofs.verifying.Claims.open_steps.Given as goal

-- the steps so far are named as unreached, or closed
abbrev pub invariant-loop-n : goal.invariant-loop-n
invariant-loop-n l = (k : ℕ) (step : StepValue) → k < l.n → numbered l.self.script.steps k ≡ Some step → IsStepClosed l.self k step
