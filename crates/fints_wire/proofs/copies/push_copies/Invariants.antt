use Rattle.std.proofs.Common.{◌≡◌, ◌++◌, take}
use Rattle.fints_wire.proofs.copies.push_copies.Given as goal

abbrev pub invariant-loop-item : goal.invariant-loop-item
invariant-loop-item l = l.out.items ≡ l.initial.out.items ++ take l.item-index l.items
