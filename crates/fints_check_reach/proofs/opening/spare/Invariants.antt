use Rattle.std.proofs.Common.{◌≡◌, ◌<◌, ℕ}
use Rattle.fints_check_reach.specs.Passes.{IsOpenAt, target_at}
use Rattle.fints_script_cases.specs.declared.answers.Target.TheVariants.{Again}
use Rattle.fints_check_reach.proofs.opening.spare.Given as goal

-- no branch so far is open and leads to the same step
abbrev pub invariant-loop-b : goal.invariant-loop-b
invariant-loop-b l = (k : ℕ) → k < l.b → IsOpenAt l.step k → target_at l.step k ≡ Again → ⊥
