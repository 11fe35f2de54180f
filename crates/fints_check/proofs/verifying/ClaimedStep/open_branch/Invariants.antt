use Rattle.std.proofs.Common.{ℕ, ◌<◌, ◌≤◌}
use Rattle.fints_script_cases.specs.Answers.{IsOpen, target_of}
use Rattle.fints_check.specs.Certificates.{GoesOn}
use Rattle.fints_check.proofs.verifying.ClaimedStep.open_branch.Given as goal

-- each open branch so far leads on
abbrev pub invariant-loop-branch : goal.invariant-loop-branch
invariant-loop-branch l =
    (k : ℕ) → 1 ≤ k → k < l.branch → IsOpen l.step.branches k
    → GoesOn l.self.claims.now.script.steps l.self.claims.now.lines l.number (target_of l.step.branches l.step.otherwise k)
