use Rattle.std.proofs.Common.{◌≡◌, map, take}
use Rattle.fints_syntax_segments.specs.declared.item.OwnedItem.TheVariants.{Text}
use Rattle.fints_wire.proofs.filling.texts.Given as goal

abbrev pub invariant-loop-text : goal.invariant-loop-text
invariant-loop-text l = l.items.items ≡ map Text (take l.text-index l.texts)
