-- The names of a draft: of its fields, its signers and its steps. They are made of constants, numbers and the kinds of
-- segments, so no name holds a secret.
use Rattle.std.specs.Prelude.{codes, decimal, ◌≡◌, ◌≤◌, ◌⊎◌, ℕ, List, ◌++◌, map, Any}
use Rattle.std.specs.Char.{to_ascii_lowercase}
use Rattle.fints_script_templates.specs.declared.template.Signer.{Signer}
use Rattle.fints_script_templates.specs.declared.template.Template.{Template}
use Rattle.fints_script.specs.Steps.{StepValue}
use Rattle.fints_cli_drafts_names.specs.declared.purposes.Purpose.{Purpose}
use Rattle.fints_cli_drafts_names.specs.declared.purposes.Purpose.TheVariants as purposes

-- the name is the word and a number up to 100
abbrev pub IsNumbered : List ℕ → List ℕ → Type 0
IsNumbered word name = (n : ℕ) × (n ≤ 100) × (name ≡ word ++ decimal n)

-- the name is the word, with a number or without
abbrev pub IsWord : List ℕ → List ℕ → Type 0
IsWord word name = (name ≡ word) ⊎ IsNumbered word name

abbrev pub IsBinWord : List ℕ → List ℕ → Type 0
IsBinWord word name = (rest : List ℕ) × (name ≡ codes "bin" ++ rest) × IsWord word rest

-- the word for what the value of a field is
abbrev pub word_of : Purpose → List ℕ
word_of (purposes.Reference signature) = codes "ref"
word_of purposes.Date = codes "date"
word_of purposes.Time = codes "time"
word_of purposes.Pin = codes "pin"
word_of (purposes.Tan signature) = codes "tan"
word_of purposes.FurtherSecret = codes "secret"
word_of purposes.NewPin = codes "newpin"
word_of purposes.OrderReference = codes "orderref"
word_of (purposes.Account list) = codes "account"

-- the name of a field of this purpose, whose values are texts or binary
abbrev pub IsNameFor : Purpose → List ℕ → Type 0
IsNameFor purpose name = IsWord (word_of purpose) name ⊎ IsBinWord (word_of purpose) name

-- the name of the dialogue's id, or of a field of some purpose
abbrev pub IsFieldName : List ℕ → Type 0
IsFieldName name = (name ≡ codes "dialog") ⊎ ((purpose : Purpose) × IsNameFor purpose name)

abbrev pub IsSignerName : Signer → Type 0
IsSignerName signer = IsWord (codes "signer") signer.name

-- the letters are those of the template's kind, in upper or lower case
abbrev pub SpellsKind : List ℕ → Template → Type 0
SpellsKind letters t = map to_ascii_lowercase letters ≡ map to_ascii_lowercase t.kind

-- the name is this front, or it, a dash and the kind of a segment
abbrev pub IsNameAfter : List ℕ → List Template → List ℕ → Type 0
IsNameAfter front templates name =
    (name ≡ front)
    ⊎ ((letters : List ℕ) × (name ≡ front ++ (codes "-" ++ letters)) × Any (SpellsKind letters) templates)

-- the name of a step: the number of its message, up to the most of the recording, and the kind of one of its segments
abbrev pub IsStepName : ℕ → StepValue → Type 0
IsStepName most step =
    (n : ℕ) × (n ≤ most) × IsNameAfter (codes "m" ++ decimal n) step.templates step.name
