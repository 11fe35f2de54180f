-- The text of `record`: the messages that are in a file. And the line that says what is passed over.
use Rattle.std.specs.Prelude.{codes, ◌≡◌, ◌<◌, ℕ, nat_lt, ◌||◌, Bool, true, false, if◌then◌else◌, List, [], ◌++◌, length}
use Rattle.std.specs.List.{filter, flat_map}
use Rattle.std.specs.Fmt.{decimal}
use Rattle.fints_rules_logs.specs.Finds.{FoundValue}
use Rattle.fints_rules_logs.specs.Kept.{IsLog, LogValue}
use Rattle.fints_rules_logs.specs.declared.keeping.Passed.{Passed}
use Rattle.fints_rules_logs.specs.declared.form.Form.{Form}
use Rattle.fints_rules_logs.specs.declared.form.Form.TheVariants.{Raw, Utf8, Base64}
use Rattle.fints_rules_dialogues.specs.Dialogues.{IsFileFault}
use Rattle.fints_cli_texts.specs.declared.fault.Fault.{Fault}
use Rattle.fints_cli_texts.specs.declared.fault.Fault.TheVariants.{Memory, Dialogue}

-- the messages of a log, one after the other
abbrev pub record_text : LogValue → List ℕ
record_text log = flat_map (λ f. f.bytes) log.kept

abbrev pub same_form : Form → Form → Bool
same_form Raw Raw = true
same_form Utf8 Utf8 = true
same_form Base64 Base64 = true
same_form _ _ = false

-- how many of the messages have that form
abbrev pub count_of : Form → List FoundValue → ℕ
count_of form kept = length (filter (λ f. same_form form f.form) kept)

-- how many messages there are in each form
abbrev pub forms_text : ℕ → ℕ → ℕ → List ℕ
forms_text raw utf8 base64 =
    (decimal raw ++ codes " raw, ")
    ++ ((decimal utf8 ++ codes " utf-8, ") ++ (decimal base64 ++ codes " base64); passed over: "))

-- how many there are, and in which forms
abbrev pub messages_text : List FoundValue → List ℕ
messages_text kept =
    (decimal (length kept) ++ codes " messages (")
    ++ forms_text (count_of Raw kept) (count_of Utf8 kept) (count_of Base64 kept)

-- how many finds are passed over
abbrev pub passed_text : Passed → List ℕ
passed_text passed =
    (decimal passed.copies ++ codes " written twice, ")
    ++ ((decimal passed.twins ++ codes " unsealed beside a sealed one, ")
    ++ (decimal passed.changed ++ codes " whose size doesn't fit\n"))

abbrev pub record_note : LogValue → List ℕ
record_note log = codes "note: " ++ (messages_text log.kept ++ passed_text log.passed)

-- something is passed over
abbrev pub passes_over : Passed → Bool
passes_over passed = nat_lt 0 passed.copies || (nat_lt 0 passed.twins || nat_lt 0 passed.changed)

-- what is said of a log beside another answer: the line on it, where that is wanted or something is passed over
abbrev pub log_note : Bool → LogValue → List ℕ
log_note wanted log = if wanted || passes_over log.passed then record_note log else []

-- the text is that of the messages in the file
abbrev pub IsRecordOf : List ℕ → List ℕ → Type 0
IsRecordOf dialogue text = (log : LogValue) × IsLog dialogue log × (text ≡ record_text log)

-- the text is what is said of the log in the file beside another answer
abbrev pub IsLogNote : Bool → List ℕ → List ℕ → Type 0
IsLogNote wanted dialogue note = (log : LogValue) × IsLog dialogue log × (note ≡ log_note wanted log)

-- the line says what is in the file, and what of it is passed over
abbrev pub IsRecordNote : List ℕ → List ℕ → Type 0
IsRecordNote dialogue note = (log : LogValue) × IsLog dialogue log × (note ≡ record_note log)

-- out of memory, or why the file is no log
abbrev pub IsRecordRefusal : List ℕ → Fault → Type 0
IsRecordRefusal dialogue Memory = Unit {0}
IsRecordRefusal dialogue (Dialogue f) = IsFileFault dialogue f
IsRecordRefusal dialogue _ = ⊥
