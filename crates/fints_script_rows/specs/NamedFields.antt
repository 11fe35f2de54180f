-- Fields by their names.
use Rattle.std.specs.Prelude.{ℕ, Bool, true, false, List, position, slice_get, Option, option_and_then}
use Rattle.std.specs.Str.{bytes_eq}
use Rattle.std.specs.List.{All}
use Rattle.std.specs.Option.{option_map_or}
use Rattle.fints_script_fields.specs.Names.{IsName}
use Rattle.fints_script_fields.specs.declared.field.Field.{Field}
use Rattle.fints_script_fields.specs.declared.field.Field.TheVariants.{Account}
use Rattle.fints_script_rows.specs.declared.fields.NamedField.{NamedField}

abbrev pub is_field_named : List ℕ → NamedField → Bool
is_field_named name field = bytes_eq name field.name

-- each has a name, and no other text
abbrev pub AreNamed : List NamedField → Type 0
AreNamed fields = All (λ (field : NamedField). IsName field.name) fields

-- the place, from 0 on, of the first field of the name
abbrev pub place_of_field : List NamedField → List ℕ → Option ℕ
place_of_field fields name = position (is_field_named name) fields

abbrev pub has_accounts : Field → Bool
has_accounts (Account c) = true
has_accounts _ = false

abbrev pub is_account_at : Option NamedField → Bool
is_account_at field = option_map_or (λ field. has_accounts field.class) field false

-- the first field of the name is one of listed accounts
abbrev pub is_account_named : List NamedField → List ℕ → Bool
is_account_named fields name = is_account_at (option_and_then (slice_get fields) (place_of_field fields name))
