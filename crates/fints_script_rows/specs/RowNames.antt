-- Names in the rows of a script.
use Rattle.std.specs.Prelude.{codes, ℕ, Bool, if◌then◌else◌, List, Option, Some, None, Ok, Err}
use Rattle.toml.specs.Data.{Data, string, Members}
use Rattle.fints_script_fields.specs.Names.{is_name}
use Rattle.fints_script_rows.specs.Parts.{Part, ◌>>=◌, required}
use Rattle.fints_script_rows.specs.declared.fault.FaultKind.TheVariants as kinds

-- the name that a text is, if it is one
abbrev pub parsed : List ℕ → Option (List ℕ)
parsed text = if is_name text then Some text else None

-- a text that is a name, and not one that is taken
abbrev pub new_name : Bool → List ℕ → Part (List ℕ)
new_name taken text =
    if is_name text then if taken then Err kinds.Duplicate else Ok text else Err kinds.WrongKind

-- the text at `name`
abbrev pub text_of_name : Data → Part (List ℕ)
text_of_name (string text) = Ok text
text_of_name _ = Err kinds.WrongKind

abbrev pub name_text : Members → Part (List ℕ)
name_text ms = required (codes "name") ms >>= text_of_name

-- the name of a row, which must not be taken
abbrev pub row_name : (List ℕ → Bool) → Members → Part (List ℕ)
row_name taken ms = name_text ms >>= λ text. new_name (taken text) text
