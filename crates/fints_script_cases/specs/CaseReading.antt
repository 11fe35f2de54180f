-- What the reader of cases knows on its way through a text. Only private contracts use these words.
use Rattle.std.specs.Prelude.{ℕ, ◌≡◌, ◌≢◌, ◌<◌, ◌≤◌, List, [], ◌∷◌, ◌++◌, codes, length, map, slice_get}
use Rattle.std.specs.Option.{ForSome}
use Rattle.std.specs.List.{All, AllPairs}
use Rattle.fints_script_fields.specs.NameSets.{HoldsNames}
use Rattle.fints_script_cases.specs.Answers.{IsAnswer}
use Rattle.fints_script_cases.specs.Cases.{field_text, answer_text, case_text, IsNamedValue}
use Rattle.fints_script_cases.specs.declared.values.NamedValue.{NamedValue}
use Rattle.fints_script_cases.specs.declared.case_reading.CaseLine.{CaseLine}
use Rattle.fints_script_cases.specs.declared.case_reading.CaseSoFar.{CaseSoFar}
use Rattle.fints_syntax_texts.specs.declared.lines.TheConstants.{MAX_TEXT}
use Rattle.fints_script_cases.specs.declared.case_reading.CaseLine.TheVariants.{Field, Reply}

-- A to Z
abbrev pub IsCapital : ℕ → Type 0
IsCapital c = (65 ≤ c) × (c ≤ 90)

-- bytes of a value
abbrev pub IsValue : List ℕ → Type 0
IsValue value = All (λ b. b < 256) value

abbrev pub line_text : CaseLine → List ℕ
line_text (Field pair) = field_text pair
line_text (Reply answer) = answer_text answer

abbrev pub IsCaseLine : CaseLine → Type 0
IsCaseLine (Field pair) = IsNamedValue pair
IsCaseLine (Reply answer) = IsAnswer answer

-- the line may come after these values and answers
abbrev pub IsNext : List NamedValue → List (List ℕ) → CaseLine → Type 0
IsNext values answers (Field pair) =
    (length answers ≡ 0) × All (λ (p : NamedValue). p.name ≢ pair.name) values
    × (length values ≡ 0 → pair.name ≡ codes "dialog")
IsNext values answers (Reply answer) = 0 < length values

abbrev pub value_names : List NamedValue → List (List ℕ)
value_names values = map (λ (pair : NamedValue). pair.name) values

abbrev pub values_with : List NamedValue → CaseLine → List NamedValue
values_with values (Field pair) = values ++ pair ∷ []
values_with values (Reply answer) = values

abbrev pub answers_with : List (List ℕ) → CaseLine → List (List ℕ)
answers_with answers (Field pair) = answers
answers_with answers (Reply answer) = answers ++ answer ∷ []

-- the values and answers of the lines so far: they may still lack their first value
pub record IsBegun (values : List NamedValue) (answers : List (List ℕ)) : Type 0 where
  pub first : ForSome (slice_get values 0) (λ pair. pair.name ≡ codes "dialog")
  pub apart : AllPairs (λ (p q : NamedValue). p.name ≢ q.name) values
  pub values_are : All IsNamedValue values
  pub answers_are : All IsAnswer answers
  pub order : length values ≡ 0 → length answers ≡ 0
  pub short : length (case_text values answers) ≤ MAX_TEXT

-- a text may go on after what was taken, in whose names each name is looked up
pub record IsReady (taken : CaseSoFar) : Type 0 where
  pub begun : IsBegun taken.case.values taken.case.answers.items
  pub names : HoldsNames (value_names taken.case.values) taken.names
