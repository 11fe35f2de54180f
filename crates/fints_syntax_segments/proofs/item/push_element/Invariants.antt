use Rattle.std.proofs.Common.{◌≡◌, take}
use Rattle.fints_syntax_segments.proofs.item.push_element.Given as goal

abbrev pub invariant-loop-item : goal.invariant-loop-item
invariant-loop-item l = record { elements : l.filling.elements ≡ l.initial.filling.elements; items : l.filling.items ≡ take l.item-index l.items }
