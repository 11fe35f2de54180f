use Rattle.std.proofs.Common.{◌≡◌, map, take}
use Rattle.fints_wire.specs.Filling.{filled_elements}
use Rattle.fints_wire.proofs.filling.filled_elements.Given as goal

abbrev pub invariant-loop-items : goal.invariant-loop-items
invariant-loop-items l = l.elements ≡ filled_elements l.filling (map (λ items. items.items) (take l.items-index l.template))
