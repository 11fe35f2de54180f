-- The law of fields: what is seen of a field is all of it. It is the contract of a public function.
use Rattle.std.specs.Prelude.{◌≡◌}
use Rattle.fints_script_rows.specs.Fields.{field_value}
use Rattle.fints_script_rows.specs.declared.fields.NamedField.{NamedField}

-- one field has this name and this class
abbrev pub OneField : Type 0
OneField = (f g : NamedField) → field_value f ≡ field_value g → f ≡ g
