-- What is said beside an answer.
use Rattle.std.proofs.Common.{ℕ, Bool, List, IfOk, IfErr, IsOk, Result, Ok, Err}
use Rattle.fints_rules_logs.specs.Kept.{IsLog, LogValue}
use Rattle.fints_rules_dialogues.specs.Dialogues.{IsFileFault, IsMemoryOrRefusal}
use Rattle.fints_rules_dialogues.specs.declared.fault.DialogueFault.{DialogueFault}
use Rattle.fints_cli_texts.specs.Audit.{IsLogReadOf}
use Rattle.fints_cli_records.specs.Record.{IsLogNote}
use Rattle.fints_cli_commands.specs.Notes.{IsNoteOfLog}

-- what is read of a file is the log, or why it is none
pub log_read_of : (file : List ℕ) (read : Result LogValue DialogueFault) → IfOk read (IsLog file)
    → IfErr read (IsMemoryOrRefusal (IsFileFault file)) → IsLogReadOf file read
log_read_of file (Ok log) is refused = is
log_read_of file (Err f) is refused = refused

-- what is said of a log that was read is said of the file
pub log_noted : (hints : Bool) (dialogue note : List ℕ) (read : Result LogValue DialogueFault) → IsOk read
    → IsLogReadOf dialogue read → IsNoteOfLog hints read note → IsLogNote hints dialogue note
log_noted hints dialogue note (Ok log) good is noted = (log, is, noted)
log_noted hints dialogue note (Err f) good is noted = absurd (cc)

-- what follows from two facts on what a call returned
pub from_both : {T E : Type 0} (r : Result T E) (P Q S : T → Type 0) → ((x : T) → P x → Q x → S x)
    → IfOk r P → IfOk r Q → IfOk r S
from_both (Ok x) P Q S f p q = f x p q
from_both (Err e) P Q S f p q = tt
