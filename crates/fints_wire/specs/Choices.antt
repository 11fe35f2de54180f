-- Choices: of the longest and of the shortest values, and with one field's value set; and the longest
-- message. What only private contracts and proofs use comes last, under a heading.
use Rattle.std.specs.Prelude.{◌≡◌, ◌≤◌, ℕ, List, length, map, set, Some}
use Rattle.fints_script_fields.specs.Fields.{field_longest, field_shortest}
use Rattle.fints_script_rows.specs.declared.fields.NamedField.{NamedField}
use Rattle.fints_script_cases.specs.declared.values.NamedValue.{NamedValue}
use Rattle.fints_script.specs.Numbered.{numbered}
use Rattle.fints_script.specs.Plans.{Admits}
use Rattle.fints_script.specs.Scripts.{ScriptValue}
use Rattle.fints_script.specs.Steps.{StepValue}
use Rattle.fints_wire.specs.Messages.{message_bytes}

-- the field has this value
abbrev pub value_of : NamedField → List ℕ → NamedValue
value_of field value = record { name = field.name; value = value }

abbrev pub with_longest : NamedField → NamedValue
with_longest field = value_of field (field_longest field.class)

abbrev pub with_shortest : NamedField → NamedValue
with_shortest field = value_of field (field_shortest field.class)

abbrev pub longest_choice : List NamedField → List NamedValue
longest_choice fields = map with_longest fields

abbrev pub shortest_choice : List NamedField → List NamedValue
shortest_choice fields = map with_shortest fields

-- the message of a step, of this number, of the longest values
abbrev pub longest_message : ScriptValue → StepValue → ℕ → List ℕ
longest_message script step number = message_bytes script step number (longest_choice script.fields)

-- no message of step n, of this number or a lower one, has more bytes than this
abbrev pub NoneIsLonger : ScriptValue → ℕ → ℕ → ℕ → Type 0
NoneIsLonger script n number size =
    (s : StepValue) (values : List NamedValue) (lower : ℕ) → numbered script.steps n ≡ Some s
    → Admits script.fields values → 1 ≤ lower → lower ≤ number
    → length (message_bytes script s lower values) ≤ size

-- ---- of private contracts and proofs only

-- the choice in which the field at this place, counted from 0, has this value, and each other field its own
abbrev pub with_value : List NamedValue → ℕ → NamedField → List ℕ → List NamedValue
with_value values f field value = set values f (value_of field value)
