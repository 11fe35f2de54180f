use Rattle.std.proofs.Common.{◌≡◌, ◌+◌, drop}
use Rattle.fints_wire.specs.Lengths.{longest_sizes, segments_len}
use Rattle.fints_wire.specs.Messages.{templates_of}
use Rattle.fints_wire.proofs.worst.segments_size.Given as goal

abbrev pub invariant-loop-i : goal.invariant-loop-i
invariant-loop-i l =
    l.size + segments_len (longest_sizes l.plan.script.fields l.number.number) (l.i + 2)
    (drop l.i (templates_of l.plan.script l.step)) ≡ segments_len
    (longest_sizes l.plan.script.fields l.number.number) 2 (templates_of l.plan.script l.step)
