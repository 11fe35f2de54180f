-- What a field counts for in a limit.
use Rattle.fints_script_fields.specs.Fields.{field_written, field_longest, field_most_items}
use Rattle.fints_script_rows.specs.declared.fields.NamedField.{NamedField}
use Rattle.fints_script_templates.specs.declared.weights.FieldWeight.{FieldWeight}

-- the written length of its longest value, and the items of its value with the most
abbrev pub figures_of : NamedField → FieldWeight
figures_of field =
    record {
      written = field_written field.class (field_longest field.class);
      items = field_most_items field.class;
    }
