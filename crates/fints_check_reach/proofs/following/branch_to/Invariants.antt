use Rattle.std.proofs.Common.{◌≤◌, ◌<◌, ℕ}
use Rattle.fints_check_reach.specs.Following.{IsCarriedTo}
use Rattle.fints_check_reach.proofs.following.branch_to.Given as goal

-- no branch so far carries the code there
abbrev pub invariant-loop-branch : goal.invariant-loop-branch
invariant-loop-branch l = (k : ℕ) → 1 ≤ k → k < l.branch → IsCarriedTo l.step l.t k l.code l.s → ⊥
