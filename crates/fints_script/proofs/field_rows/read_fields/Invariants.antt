use Rattle.std.proofs.Common.{◌≡◌, ◌∷◌, List, map, take, Ok}
use Rattle.toml.specs.View.{view}
use Rattle.fints_script_rows.specs.Fields.{field_in, field_value}
use Rattle.fints_script_rows.specs.Rows.{rows_from}
use Rattle.fints_script_rows.specs.declared.fault.Place.TheVariants as places
use Rattle.fints_script_rows.specs.declared.fields.NamedField.{NamedField}
use Rattle.fints_script.specs.Scripts.{dialog_value}
use Rattle.fints_script.proofs.field_rows.read_fields.Given as goal

abbrev pub invariant-loop-i : goal.invariant-loop-i
invariant-loop-i l = record {
  dialog : NamedField;
  others : List NamedField;
  all : l.fields.items ≡ dialog ∷ others;
  built_in : field_value dialog ≡ dialog_value;
  each : rows_from (λ n. places.Field n) (λ i row. field_in (take i (map view l.rows)) row) 0
      (take l.i (map view l.rows)) ≡ Ok (map field_value others);
}
