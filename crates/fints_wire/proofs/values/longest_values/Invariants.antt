use Rattle.std.proofs.Common.{◌≡◌, take}
use Rattle.fints_wire.specs.Choices.{longest_choice}
use Rattle.fints_wire.proofs.values.longest_values.Given as goal

abbrev pub invariant-loop-field : goal.invariant-loop-field
invariant-loop-field l = l.values ≡ longest_choice (take l.field-index l.fields)
