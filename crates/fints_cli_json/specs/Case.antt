-- A case: the values of the fields in hex, and the codes of each answer of the bank.
use Rattle.std.specs.Prelude.{codes, ℕ, List, [], ◌∷◌, map}
use Rattle.hex.specs.Hex.{encode_lower}
use Rattle.json.specs.Json.{Json, array, string}
use Rattle.fints_script_cases.specs.Patterns.{code_text}
use Rattle.fints_script_cases.specs.declared.values.NamedValue.{NamedValue}
use Rattle.fints_cli_json.specs.Objects.{Member, items_of, latin, list, object_of, text}

abbrev pub field_members : NamedValue → List Member
field_members v = text (codes "name") (latin v.name) ∷ text (codes "hex") (encode_lower v.value) ∷ []

abbrev pub code_value : ℕ → Json
code_value code = string (latin (code_text code))

abbrev pub answer_value : List ℕ → Json
answer_value answer = array (items_of (map code_value answer))

abbrev pub answers_member : List (List ℕ) → Member
answers_member answers = list (codes "answers") (map answer_value answers)

abbrev pub case_members : List NamedValue → List (List ℕ) → List Member
case_members values answers =
    list (codes "fields") (map (λ v. object_of (field_members v)) values) ∷ answers_member answers ∷ []
