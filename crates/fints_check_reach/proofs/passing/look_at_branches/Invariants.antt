use Rattle.std.proofs.Common.{ℕ, ◌≡◌, ◌+◌, ◌<◌, ◌↔◌, length, slice_get, Some, true}
use Rattle.fints_check_reach.specs.Passes.{AreKept, IsOpenAt}
use Rattle.fints_check_reach.proofs.Keeping.{SoFarAsks}
use Rattle.fints_check_reach.proofs.passing.look_at_branches.Given as goal

-- the flags so far; the step was kept for what the branches so far go to, and for nothing else
abbrev pub invariant-loop-b : goal.invariant-loop-b
invariant-loop-b l = record {
  long : length l.flags ≡ 21;
  counted : l.visits ≡ l.fn.visits + l.b;
  each : (k : ℕ) → k < l.b → (slice_get l.flags k ≡ Some true) ↔ IsOpenAt l.step k;
  kept : AreKept l.n (SoFarAsks l.step l.asked.marks.now l.n l.asked.code (l.b + 1)) l.fn.behind.items
      l.behind.items;
}
