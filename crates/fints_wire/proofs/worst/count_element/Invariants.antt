use Rattle.std.proofs.Common.{◌≡◌, ◌+◌, drop}
use Rattle.fints_wire.specs.Lengths.{element_len, longest_sizes}
use Rattle.fints_wire.proofs.worst.count_element.Given as goal

abbrev pub invariant-loop-item : goal.invariant-loop-item
invariant-loop-item l =
    l.size + element_len (longest_sizes l.plan.script.fields l.number)
    (drop l.item-index l.items) ≡ l.before + element_len (longest_sizes l.plan.script.fields l.number)
    l.items
