use Rattle.std.proofs.Common.{◌≡◌, take}
use Rattle.std.specs.List.{flat_map}
use Rattle.fints_wire.specs.Filling.{filled_item}
use Rattle.fints_wire.proofs.filling.filled_element.Given as goal

abbrev pub invariant-loop-item : goal.invariant-loop-item
invariant-loop-item l = l.items.items ≡ flat_map (filled_item l.filling) (take l.item-index l.template)
