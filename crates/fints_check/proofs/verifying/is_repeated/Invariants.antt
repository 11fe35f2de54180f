use Rattle.std.proofs.Common.{ℕ, ◌≡◌, ◌<◌, ◌≤◌}
use Rattle.fints_script_cases.specs.Answers.{IsOpen, target_of}
use Rattle.fints_script_cases.specs.declared.answers.Target.TheVariants.{Again}
use Rattle.fints_check.proofs.verifying.is_repeated.Given as goal

-- no branch so far is open and leads back
abbrev pub invariant-loop-branch : goal.invariant-loop-branch
invariant-loop-branch l = (k : ℕ) → 1 ≤ k → k < l.branch → IsOpen l.step.branches k → target_of l.step.branches l.step.otherwise k ≡ Again → ⊥
