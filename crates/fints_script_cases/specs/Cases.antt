-- Cases and their texts.
use Rattle.std.specs.Prelude.{ℕ, ◌≡◌, ◌≢◌, ◌<◌, ◌≤◌, List, [], ◌∷◌, ◌++◌, codes, length, map, slice_get, IsSomeAnd}
use Rattle.std.specs.List.{All, AllPairs, flat_map}
use Rattle.hex.specs.Hex.{encode_lower}
use Rattle.fints_script_fields.specs.Names.{IsName}
use Rattle.fints_syntax_texts.specs.Lines.{text_of_lines, IsFirstBadLineOf}
use Rattle.fints_script_cases.specs.Patterns.{code_text}
use Rattle.fints_script_cases.specs.Answers.{IsAnswer}
use Rattle.fints_script_cases.specs.declared.values.NamedValue.{NamedValue}
use Rattle.fints_script_cases.specs.declared.case_fault.CaseFault.{CaseFault}
use Rattle.fints_syntax_texts.specs.declared.lines.TheConstants.{MAX_TEXT}
use Rattle.fints_script_cases.specs.declared.case_fault.CaseFault.TheVariants.{Bad, Memory}

-- ---- the text

-- a value in lower hex, `-` for the empty one
abbrev pub value_text : List ℕ → List ℕ
value_text [] = codes "-"
value_text (b ∷ bytes) = encode_lower (b ∷ bytes)

abbrev pub field_text : NamedValue → List ℕ
field_text pair = codes "field " ++ (pair.name ++ 32 ∷ value_text pair.value)

-- each code after a space
abbrev pub codes_text : List ℕ → List ℕ
codes_text answer = flat_map (λ code. 32 ∷ code_text code) answer

abbrev pub answer_text : List ℕ → List ℕ
answer_text answer = codes "answer" ++ codes_text answer

-- the lines, without their line feeds
abbrev pub case_lines : List NamedValue → List (List ℕ) → List (List ℕ)
case_lines values answers = codes "fints-case 1" ∷ (map field_text values ++ map answer_text answers)

abbrev pub case_text : List NamedValue → List (List ℕ) → List ℕ
case_text values answers = text_of_lines (case_lines values answers)

-- ---- which text denotes which case

-- the first name is `dialog`, and no name comes twice
pub record AreFields (values : List NamedValue) : Type 0 where
  pub first : IsSomeAnd (slice_get values 0) (λ pair. pair.name ≡ codes "dialog")
  pub apart : AllPairs (λ (p q : NamedValue). p.name ≢ q.name) values

-- a name and bytes
abbrev pub IsNamedValue : NamedValue → Type 0
IsNamedValue pair = IsName pair.name × All (λ b. b < 256) pair.value

-- a case whose text can be read
pub record IsCase (values : List NamedValue) (answers : List (List ℕ)) : Type 0 where
  pub fields : AreFields values
  pub values_are : All IsNamedValue values
  pub answers_are : All IsAnswer answers
  pub short : length (case_text values answers) ≤ MAX_TEXT

-- the text denotes this case
abbrev pub IsCaseOf : List ℕ → List NamedValue → List (List ℕ) → Type 0
IsCaseOf text values answers = IsCase values answers × (text ≡ case_text values answers)

-- it denotes no two cases
abbrev pub OneCase : List ℕ → Type 0
OneCase text =
    (values others : List NamedValue) (answers replies : List (List ℕ)) → IsCaseOf text values answers
    → IsCaseOf text others replies → (values ≡ others) × (answers ≡ replies)

-- ---- which line is refused

-- some values and answers are a case, and these are its lines
pub record AreCaseLines (lines : List (List ℕ)) : Type 0 where
  pub values : List NamedValue
  pub answers : List (List ℕ)
  pub is : IsCase values answers
  pub lines_are : lines ≡ case_lines values answers

-- the text is no case, and its n-th line is the first that is none of a case
abbrev pub IsFirstBadCaseLine : List ℕ → ℕ → Type 0
IsFirstBadCaseLine text n = IsFirstBadLineOf AreCaseLines text n

-- a text is a case, or some line of it is the first bad one: it can't be that it is neither
abbrev pub CaseOrBadLine : List ℕ → Type 0
CaseOrBadLine text =
    ((values : List NamedValue) (answers : List (List ℕ)) → IsCaseOf text values answers → ⊥)
    → ((n : ℕ) → IsFirstBadCaseLine text n → ⊥) → ⊥

abbrev pub IsCaseFault : List ℕ → CaseFault → Type 0
IsCaseFault text (Bad line) = IsFirstBadCaseLine text line
IsCaseFault text Memory = Unit {0}
