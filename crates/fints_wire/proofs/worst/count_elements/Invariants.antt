use Rattle.std.proofs.Common.{◌≡◌, ◌+◌, drop, map}
use Rattle.fints_wire.specs.Lengths.{elements_len, longest_sizes}
use Rattle.fints_wire.proofs.worst.count_elements.Given as goal

abbrev pub invariant-loop-items : goal.invariant-loop-items
invariant-loop-items l =
    l.size + elements_len (longest_sizes l.plan.script.fields l.number)
    (map (λ v. v.items) (drop l.items-index l.elements)) ≡ l.before + elements_len
    (longest_sizes l.plan.script.fields l.number) (map (λ v. v.items) l.elements)
