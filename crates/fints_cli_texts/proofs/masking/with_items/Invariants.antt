use Rattle.std.proofs.Common.{◌≡◌, ◌-◌, set, take}
use Rattle.fints_cli_texts.proofs.masking.with_items.Given as goal

abbrev pub invariant-loop-i : goal.invariant-loop-i
invariant-loop-i l = l.elements ≡ take l.i (set l.segment.elements (l.element - 2) l.items)
