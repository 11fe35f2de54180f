use Rattle.std.proofs.Common.{◌≡◌, ◌+◌, ◌-◌, ◌^◌, ◌<◌, ◌≤◌, length}
use Rattle.fints_rules_messages.specs.Front.{IsFront}
use Rattle.fints_rules_messages.proofs.inner.read_inner.Given as goal

-- the parts of `inner` in their order, since the loop writes them one by one
abbrev pub invariant-loop-view : goal.invariant-loop-view
invariant-loop-view l =
    let openers = l.inner.1.0.items in
    let body = l.inner.1.1.0.items in
    let ends = l.inner.1.1.1.0.items in
    record {
      within : l.inner.0 ≤ length l.bytes;
      few : length openers + (length body + length ends) < 2 ^ 16;
      front : IsFront l.bytes l.inner.0 openers body ends;
      seal : l.inner.1.1.1.1.0 ≡ l.fn.seal;
    }

abbrev pub decreases-loop-view : goal.decreases-loop-view
decreases-loop-view l = length l.bytes - l.inner.0
