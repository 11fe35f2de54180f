use Rattle.std.proofs.Common.{◌≡◌, ◌+◌, ◌++◌, drop}
use Rattle.fints_wire.specs.Filling.{filled_segments}
use Rattle.fints_wire.specs.Messages.{inner_segments, segments_text, templates_of}
use Rattle.fints_wire.proofs.building.inner_text.Given as goal

abbrev pub invariant-loop-i : goal.invariant-loop-i
invariant-loop-i l =
    l.out.items ++ segments_text
    (filled_segments l.filling (l.i + 2) (drop l.i (templates_of l.plan.script l.step))) ≡ segments_text
    (inner_segments l.plan.script l.step l.filling)
