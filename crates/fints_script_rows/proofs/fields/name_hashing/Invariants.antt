use Rattle.std.proofs.Common.{take}
use Rattle.fints_script_rows.specs.NamedFields.{AreNamed}
use Rattle.fints_script_rows.proofs.fields.name_hashing.Given as goal

abbrev pub invariant-loop-field : goal.invariant-loop-field
invariant-loop-field l = AreNamed (take l.field-index l.fields)
