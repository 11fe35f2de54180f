use Rattle.std.proofs.Common.{ℕ, ◌≤◌, ◌<◌}
use Rattle.fints_check_findings.specs.Releases.{IsUnreleasedAt}
use Rattle.fints_check_findings.proofs.releasing.is_never_held.Given as goal

-- no branch so far is so
abbrev pub invariant-loop-branch : goal.invariant-loop-branch
invariant-loop-branch l = (s k : ℕ) → 1 ≤ k → k < l.branch → IsUnreleasedAt l.at.plan.now.script.steps l.at.n l.step k s → ⊥
