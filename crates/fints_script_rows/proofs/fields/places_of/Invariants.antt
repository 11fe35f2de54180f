use Rattle.std.proofs.Common.{take}
use Rattle.std.specs.Str.{bytes_eq}
use Rattle.indexmap.specs.IndexMap.{get}
use Rattle.fints_script_rows.specs.NamedFields.{is_field_named}
use Rattle.fints_script_rows.specs.Places.{HoldsPlaces}
use Rattle.fints_script_rows.proofs.fields.places_of.Given as goal

abbrev pub invariant-loop-i : goal.invariant-loop-i
invariant-loop-i l = HoldsPlaces is_field_named (take l.i l.fields) (get bytes_eq l.places)
