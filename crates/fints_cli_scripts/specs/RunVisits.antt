-- The text of a run as its messages are made, visit by visit. Only private contracts use this file.
use Rattle.std.specs.Prelude.{◌≡◌, ℕ, List, Contains, Option, None, Some}
use Rattle.std.specs.List.{All}
use Rattle.fints_script_cases.specs.declared.values.NamedValue.{NamedValue}
use Rattle.fints_script.specs.Scripts.{ScriptValue}
use Rattle.fints_wire.specs.Runs.{AreSent, IsSent}
use Rattle.fints_wire.specs.declared.dialogue.Sent.{Sent}
use Rattle.fints_wire.specs.declared.dialogue.Visit.{Visit}
use Rattle.fints_cli_texts.specs.declared.fault.Fault.{Fault}
use Rattle.fints_cli_texts.specs.declared.fault.Fault.TheVariants.{Memory, NoMessage}
use Rattle.fints_cli_scripts.specs.RunText.{run_text}

-- the text holds the messages of these visits
pub record TellsVisits (script : ScriptValue) (values : List NamedValue) (visits : List Visit) (text : List ℕ)
    : Type 0 where
  pub sent : List Sent
  pub messages : AreSent script values visits sent
  pub text_is : text ≡ run_text script.steps sent

-- the text is the message of one of them, with this number
pub record TellsVisit (script : ScriptValue) (values : List NamedValue) (visits : List Visit) (number : ℕ)
    (text : List ℕ) : Type 0 where
  pub visit : Visit
  pub among : Contains visits visit
  pub number_is : visit.number ≡ number
  pub message : Sent
  pub sent : IsSent script values visit message
  pub text_is : text ≡ message.bytes

-- none of them has the number
abbrev pub IsUnvisited : List Visit → ℕ → Type 0
IsUnvisited visits number = All (λ (v : Visit). v.number ≡ number → ⊥) visits

abbrev pub FindsVisit : List Visit → ℕ → Option Visit → Type 0
FindsVisit visits number None = IsUnvisited visits number
FindsVisit visits number (Some v) = Contains visits v × (v.number ≡ number)

-- out of memory, or that none has the number
abbrev pub IsUnvisitedRefusal : List Visit → ℕ → Fault → Type 0
IsUnvisitedRefusal visits number Memory = Unit {0}
IsUnvisitedRefusal visits number (NoMessage n) = (n ≡ number) × IsUnvisited visits number
IsUnvisitedRefusal visits number _ = ⊥
