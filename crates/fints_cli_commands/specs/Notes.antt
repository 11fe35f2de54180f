-- What is said beside an answer, whether hints are wanted or not: what a recording passes over, and that a case holds
-- a PIN or a TAN.
use Rattle.std.specs.Prelude.{codes, ◌≡◌, ℕ, Bool, true, List, [], ◌++◌, Option, Result, Ok, Err}
use Rattle.fints_rules_logs.specs.Kept.{IsLog, LogValue}
use Rattle.fints_rules_dialogues.specs.declared.fault.DialogueFault.{DialogueFault}
use Rattle.fints_cli_records.specs.Record.{log_note}
use Rattle.fints_cli_drafts.specs.Drafts.{IsDraftOf}
use Rattle.fints_cli_drafts.specs.declared.drafting.Drafted.{Drafted}
use Rattle.fints_cli_drafts.specs.declared.drafting.Drafted.TheVariants as drafts

unfoldable pub secrets_line : List ℕ
secrets_line = codes "note: this case holds the PIN and the TANs of the dialogue\n"

-- what is said beside a case that holds a secret
abbrev pub secrets_note : Drafted → Bool → List ℕ
secrets_note drafts.Case true = secrets_line
secrets_note _ _ = []

-- the text is a draft of the recording with the order table
abbrev pub IsDrafted : Drafted → Option ℕ → List ℕ → List ℕ → List ℕ → Type 0
IsDrafted drafted number table dialogue text =
    (secret : Bool) × IsDraftOf table drafted number dialogue text secret

-- the recording has a draft with the order table, whose case has a secret or not
abbrev pub HasDraft : Drafted → Option ℕ → List ℕ → List ℕ → Bool → Type 0
HasDraft drafted number table dialogue secret =
    (text : List ℕ) × IsDraftOf table drafted number dialogue text secret

-- the text is a draft of the recording with the order table; and beside it is said what the recording passes over,
-- and that a case holds a secret where it does
pub record IsDraftWithNote (wanted : Bool) (drafted : Drafted) (number : Option ℕ)
    (table dialogue text note : List ℕ)
    : Type 0 where
  pub log : LogValue
  pub secret : Bool
  pub log_is : IsLog dialogue log
  pub draft : IsDraftOf table drafted number dialogue text secret
  pub note_is : note ≡ log_note wanted log ++ secrets_note drafted secret

-- ---- of private contracts only

-- what is said of a log that was read; nothing of what is none
abbrev pub IsNoteOfLog : Bool → Result LogValue DialogueFault → List ℕ → Type 0
IsNoteOfLog wanted (Ok log) note = note ≡ log_note wanted log
IsNoteOfLog wanted (Err f) note = note ≡ []
