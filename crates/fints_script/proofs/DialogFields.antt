-- A script's fields: the built-in one, and those of its rows.
use Rattle.std.proofs.Common.{◌≡◌, List, [], ◌∷◌, map, Ok, ap, refl, sym, ◌∙◌}
use Rattle.toml.specs.Data.{Data}
use Rattle.fints_script_rows.specs.Fields.{field_value}
use Rattle.fints_script_rows.specs.declared.fields.NamedField.{NamedField}
use Rattle.fints_script.specs.Scripts.{DenoteFields, dialog_value, fields_from}

-- the fields one by one
pub record HasFields (rows : List Data) (fields : List NamedField) : Type 0 where
  pub dialog : NamedField
  pub others : List NamedField
  pub all : fields ≡ dialog ∷ others
  pub built_in : field_value dialog ≡ dialog_value
  pub each : fields_from rows ≡ Ok (map field_value others)

pub has_fields : (rows : List Data) (fields : List NamedField) → DenoteFields rows fields
    → HasFields rows fields
has_fields rows [] (others, each, same) = absurd cc
has_fields rows (f ∷ fs) (others, each, same) =
    let rest : map field_value fs ≡ others = cc in
    record { dialog = f; others = fs; all = refl; built_in = cc; each = each ∙ ap Ok (sym rest) }
