use Rattle.std.proofs.Common.{◌≡◌, take}
use Rattle.fints_wire.specs.Choices.{shortest_choice}
use Rattle.fints_wire.proofs.values.shortest_values.Given as goal

abbrev pub invariant-loop-field : goal.invariant-loop-field
invariant-loop-field l = l.values ≡ shortest_choice (take l.field-index l.fields)
