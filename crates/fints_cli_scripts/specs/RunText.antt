-- The text of `run`: the messages that a client sends under a case, each after a line about it, with LF
-- at the ends. What only private contracts and proofs use comes last, under a heading.
use Rattle.std.specs.Prelude.{◌≡◌, ℕ, List, ◌++◌, length, codes, Contains, Option, None, Some}
use Rattle.std.specs.List.{flat_map, All}
use Rattle.std.specs.Fmt.{decimal}
use Rattle.fints_script_cases.specs.Cases.{IsCaseOf, IsFirstBadCaseLine}
use Rattle.fints_script.specs.Plans.{Admits}
use Rattle.fints_script.specs.Scripts.{ScriptValue}
use Rattle.fints_script.specs.Steps.{StepValue}
use Rattle.fints_script_cases.specs.declared.case_fault.CaseFault.{CaseFault}
use Rattle.fints_script_cases.specs.declared.case_fault.CaseFault.TheVariants as cases
use Rattle.fints_script_cases.specs.declared.values.NamedValue.{NamedValue}
use Rattle.fints_wire.specs.Runs.{Run}
use Rattle.fints_wire.specs.declared.dialogue.Sent.{Sent}
use Rattle.fints_cli_texts.specs.declared.fault.Fault.{Fault}
use Rattle.fints_cli_texts.specs.declared.fault.Fault.TheVariants.{Memory, Case, NotAdmitted, NoMessage}
use Rattle.fints_cli_scripts.specs.Plans.{ArePlan, IsPlanRefusal}
use Rattle.fints_cli_scripts.specs.StepNames.{step_name}

-- ---- the text

-- the line of a message of a step of this name: its number, the name and its size
unfoldable pub line_of : List ℕ → Sent → List ℕ
line_of name m =
    codes "message " ++ decimal m.number ++ codes " step " ++ name ++ codes " size "
    ++ decimal (length m.bytes) ++ codes "\n"

-- the line, and then the bytes of the message
unfoldable pub message_text : List StepValue → Sent → List ℕ
message_text steps m = line_of (step_name steps m.step) m ++ m.bytes ++ codes "\n"

abbrev pub run_text : List StepValue → List Sent → List ℕ
run_text steps sent = flat_map (message_text steps) sent

-- these are the bytes of the message of this number
pub record IsMessageIn (sent : List Sent) (number : ℕ) (bytes : List ℕ) : Type 0 where
  pub message : Sent
  pub among : Contains sent message
  pub number_is : message.number ≡ number
  pub bytes_are : bytes ≡ message.bytes

-- the text holds all that was sent, or only the message of one number
abbrev pub IsTextOf : List StepValue → List Sent → Option ℕ → List ℕ → Type 0
IsTextOf steps sent None text = text ≡ run_text steps sent
IsTextOf steps sent (Some number) text = IsMessageIn sent number text

-- ---- what it says

-- the text has the run of these values and answers, or one message of it
pub record TellsRun (script : ScriptValue) (values : List NamedValue) (answers : List (List ℕ))
    (only : Option ℕ) (text : List ℕ) : Type 0 where
  pub sent : List Sent
  pub run : Run script values answers sent
  pub text_is : IsTextOf script.steps sent only text

-- the text of a case has values that the script admits, and the text has its run
pub record TellsCase (script : ScriptValue) (case : List ℕ) (only : Option ℕ) (text : List ℕ) : Type 0 where
  pub values : List NamedValue
  pub answers : List (List ℕ)
  pub case_is : IsCaseOf case values answers
  pub admitted : Admits script.fields values
  pub tells : TellsRun script values answers only text

-- the text has the run of a case by the texts of an order table and of a script
pub record IsRunOf (orders script case : List ℕ) (only : Option ℕ) (text : List ℕ) : Type 0 where
  pub value : ScriptValue
  pub plan : ArePlan orders script value
  pub tells : TellsCase value case only text

-- ---- why there is none

-- the text of a case has values that the script doesn't admit
pub record IsNotAdmitted (script : ScriptValue) (case : List ℕ) : Type 0 where
  pub values : List NamedValue
  pub answers : List (List ℕ)
  pub case_is : IsCaseOf case values answers
  pub not_admitted : Admits script.fields values → ⊥

-- the fault is the first line that is no line of a case
abbrev pub IsBadCase : List ℕ → CaseFault → Type 0
IsBadCase case (cases.Bad line) = IsFirstBadCaseLine case line
IsBadCase case cases.Memory = ⊥

-- none of the messages has this number
abbrev pub IsUnsent : List Sent → ℕ → Type 0
IsUnsent sent number = All (λ (m : Sent). m.number ≡ number → ⊥) sent

-- the run of these values and answers has no message of this number
pub record IsNotReached (script : ScriptValue) (values : List NamedValue) (answers : List (List ℕ))
    (number : ℕ) : Type 0 where
  pub sent : List Sent
  pub run : Run script values answers sent
  pub unsent : IsUnsent sent number

-- the text of a case has values that the script admits, and its run has no message of this number
pub record IsCaseWithout (script : ScriptValue) (case : List ℕ) (number : ℕ) : Type 0 where
  pub values : List NamedValue
  pub answers : List (List ℕ)
  pub case_is : IsCaseOf case values answers
  pub admitted : Admits script.fields values
  pub not_reached : IsNotReached script values answers number

-- out of memory, or the first refusal: of the order table, of the script, of what it leaves open, of the case, or else of the number
abbrev pub IsRunRefusal : List ℕ → List ℕ → List ℕ → Option ℕ → Fault → Type 0
IsRunRefusal orders script case only (Case f) =
    ((value : ScriptValue) × ArePlan orders script value) × IsBadCase case f
IsRunRefusal orders script case only NotAdmitted =
    (value : ScriptValue) × ArePlan orders script value × IsNotAdmitted value case
IsRunRefusal orders script case only (NoMessage number) =
    (only ≡ Some number)
    × ((value : ScriptValue) × ArePlan orders script value × IsCaseWithout value case number)
IsRunRefusal orders script case only f = IsPlanRefusal orders script f

-- ---- of private contracts and proofs only

-- out of memory, or a number that was asked for and isn't reached
abbrev pub IsAdmittedRefusal : ScriptValue → List NamedValue → List (List ℕ) → Option ℕ → Fault → Type 0
IsAdmittedRefusal script values answers only Memory = Unit {0}
IsAdmittedRefusal script values answers only (NoMessage number) =
    (only ≡ Some number) × IsNotReached script values answers number
IsAdmittedRefusal script values answers only _ = ⊥

-- out of memory, the refusal of the case, or that of the number
abbrev pub IsCaseRefusal : ScriptValue → List ℕ → Option ℕ → Fault → Type 0
IsCaseRefusal script case only Memory = Unit {0}
IsCaseRefusal script case only (Case f) = IsBadCase case f
IsCaseRefusal script case only NotAdmitted = IsNotAdmitted script case
IsCaseRefusal script case only (NoMessage number) = (only ≡ Some number) × IsCaseWithout script case number
IsCaseRefusal script case only _ = ⊥
