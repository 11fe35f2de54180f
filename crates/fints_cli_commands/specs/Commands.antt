-- What the commands answer, and why they have no answer.
use Rattle.std.specs.Prelude.{◌≡◌, ℕ, Bool, false, List, [], ◌++◌, Option, None, Some, IfSome}
use Rattle.std.specs.Borrow.{Bor}
use Rattle.fints_cli_texts.specs.declared.fault.Fault.{Fault}
use Rattle.fints_cli_texts.specs.declared.fault.Fault.TheVariants.{Memory, NoFinding, NoMessage, NoPart}
use Rattle.fints_cli_commands.specs.declared.failing.Failure.{Failure}
use Rattle.fints_cli_commands.specs.declared.failing.Failure.TheVariants.{Input, Unread}
use Rattle.fints_cli_commands.specs.declared.failing.Refusal.{Refusal}
use Rattle.fints_cli_words.specs.declared.requests.Command.{Command}
use Rattle.fints_cli_words.specs.declared.requests.Command.TheVariants.{BuiltIn, Show, ShowMessage, Judge, JudgeAfter, Audit, AuditOwn, Record, Draft, DraftCase, Check, Explain, Certify, Verify, Draw, DrawFound}
use Rattle.fints_cli_words.specs.declared.requests.Command.TheVariants as commands
use Rattle.fints_cli_words.specs.declared.requests.Paths.{Paths}
use Rattle.fints_cli_words.specs.declared.requests.Request.{Request}
use Rattle.fints_cli_commands.specs.BuiltIn as built_in
use Rattle.fints_cli_commands.specs.Loading.{Held, bytes_at, table_at}
use Rattle.fints_cli_texts.specs.Show.{IsShowOf, IsMemoryOrShowFault}
use Rattle.fints_cli_texts.specs.ShowMessage.{IsShownMessage}
use Rattle.fints_cli_texts.specs.Judge.{IsVerdictOf, IsMessageRefusal, IsJudgeRefusal}
use Rattle.fints_cli_texts.specs.JudgeAfter.{IsJudgeAfterRefusal, IsVerdictAfter}
use Rattle.fints_cli_texts.specs.Audit.{IsAuditOf, IsOwnAuditOf, IsAuditRefusal, IsOwnAuditRefusal}
use Rattle.fints_cli_drawings.specs.Drawn.{no_orders, IsDrawnOf, IsPictureOf}
use Rattle.fints_rules_logs.specs.Kept.{IsLog, LogValue}
use Rattle.fints_cli_commands.specs.Notes.{secrets_note, HasDraft, IsDrafted}
use Rattle.fints_cli_records.specs.Record.{log_note, record_note, IsRecordOf, IsRecordRefusal}
use Rattle.fints_cli_drafts.specs.Drafts.{IsDraftRefusal}
use Rattle.fints_cli_drafts.specs.declared.drafting.Drafted.{Drafted}
use Rattle.fints_cli_drafts.specs.declared.drafting.Drafted.TheVariants as drafts
use Rattle.fints_cli_scripts.specs.Plans.{IsPlanRefusal}
use Rattle.fints_cli_scripts.specs.Told.{IsRefused, IsToldOf, IsTellRefusal}
use Rattle.fints_cli_scripts.specs.declared.telling.Wanted.{Wanted}
use Rattle.fints_cli_scripts.specs.declared.telling.Wanted.TheVariants.{Report, Cases, OneCase, Certificate}
use Rattle.fints_cli_scripts.specs.RunText.{IsRunOf, IsRunRefusal}
use Rattle.fints_cli_scripts.specs.Verified.{IsUnverified, IsVerifiedOf}

-- 2 for a message that a run doesn't reach, a finding or a dialogue that isn't there, 3 for a refused input,
-- 4 where memory ran out, 5 for a file that couldn't be read
abbrev pub failure_status : Failure → ℕ
failure_status (Input Memory) = 4
failure_status (Input (NoMessage number)) = 2
failure_status (Input (NoFinding number)) = 2
failure_status (Input (NoPart number)) = 2
failure_status (Input _) = 3
failure_status (Unread input) = 5

-- there is a hint only where it is asked for
abbrev pub HintsIfAsked : Bool → Refusal → Type 0
HintsIfAsked asked refusal = asked ≡ false → refusal.hint ≡ None

-- this holds of the bytes of two inputs, where they are known
abbrev pub IfBoth : (a b : Option (List ℕ)) → (List ℕ → List ℕ → Type 0) → Type 0
IfBoth a b P = IfSome a (λ p. IfSome b (λ q. P p q))

-- this holds of the bytes of three inputs, where they are known
abbrev pub IfAll : (a b c : Option (List ℕ)) → (List ℕ → List ℕ → List ℕ → Type 0) → Type 0
IfAll a b c P = IfSome a (λ p. IfSome b (λ q. IfSome c (λ r. P p q r)))

-- this holds of the capture, the order table and the script
abbrev pub OfScript : Held → Paths → (List ℕ → List ℕ → List ℕ → Type 0) → Type 0
OfScript holds paths P =
    IfAll (bytes_at holds paths.params) (table_at holds paths.orders) (bytes_at holds paths.script) P

-- this holds of the capture, the order table and the message
abbrev pub OfMessage : Held → Paths → (List ℕ → List ℕ → List ℕ → Type 0) → Type 0
OfMessage holds paths P =
    IfAll (bytes_at holds paths.params) (table_at holds paths.orders) (bytes_at holds paths.message) P

-- this holds of the capture, the order table and the recorded dialogue
abbrev pub OfDialogue : Held → Paths → (List ℕ → List ℕ → List ℕ → Type 0) → Type 0
OfDialogue holds paths P =
    IfAll (bytes_at holds paths.params) (table_at holds paths.orders) (bytes_at holds paths.dialogue) P

-- this holds of the recorded dialogue
abbrev pub OfRecording : Held → Paths → (List ℕ → Type 0) → Type 0
OfRecording holds paths P = IfSome (bytes_at holds paths.dialogue) P

-- this holds of the order table and the recorded dialogue
abbrev pub OfOwnDialogue : Held → Paths → (List ℕ → List ℕ → Type 0) → Type 0
OfOwnDialogue holds paths P = IfBoth (table_at holds paths.orders) (bytes_at holds paths.dialogue) P

-- this holds of the order table, the script and the case
abbrev pub OfCase : Held → Paths → (List ℕ → List ℕ → List ℕ → Type 0) → Type 0
OfCase holds paths P =
    IfAll (table_at holds paths.orders) (bytes_at holds paths.script) (bytes_at holds paths.case) P

-- what `explain` prints: the cases of all findings, or that of the one of a number
abbrev pub cases_wanted : Option ℕ → Wanted
cases_wanted None = Cases
cases_wanted (Some number) = OneCase number

-- the status and the text are the answer of a command by these files, where their bytes are known
abbrev pub AnswersBy : Command → Paths → Option ℕ → Held → ℕ → List ℕ → Type 0
AnswersBy BuiltIn paths number holds status text =
    IsToldOf Report built_in.capture built_in.orders built_in.script status text
AnswersBy commands.Orders paths number holds status text = (status ≡ 0) × (text ≡ built_in.all_orders)
AnswersBy Show paths number holds status text =
    (status ≡ 0) × IfSome (bytes_at holds paths.shown) (λ capture. IsShowOf capture text)
AnswersBy ShowMessage paths number holds status text =
    (status ≡ 0) × IfSome (bytes_at holds paths.message) (λ bytes. IsShownMessage bytes text)
AnswersBy Judge paths number holds status text =
    OfMessage holds paths (λ capture table message. IsVerdictOf capture table message status text)
AnswersBy JudgeAfter paths number holds status text =
    OfMessage holds paths (λ capture table message.
    IfBoth (bytes_at holds paths.before) (bytes_at holds paths.answer) (λ before answer.
    IsVerdictAfter capture table before answer message status text))
AnswersBy Audit paths number holds status text =
    OfDialogue holds paths (λ capture table dialogue. IsAuditOf capture table dialogue status text)
AnswersBy AuditOwn paths number holds status text =
    OfOwnDialogue holds paths (λ table dialogue. IsOwnAuditOf table dialogue status text)
AnswersBy Record paths number holds status text =
    (status ≡ 0) × IfSome (bytes_at holds paths.dialogue) (λ dialogue. IsRecordOf dialogue text)
AnswersBy Draft paths number holds status text =
    (status ≡ 0) × OfOwnDialogue holds paths (λ table dialogue.
    IsDrafted drafts.Script number table dialogue text)
AnswersBy DraftCase paths number holds status text =
    (status ≡ 0) × OfOwnDialogue holds paths (λ table dialogue.
    IsDrafted drafts.Case number table dialogue text)
AnswersBy Check paths number holds status text =
    OfScript holds paths (λ capture table script. IsToldOf Report capture table script status text)
AnswersBy Explain paths number holds status text =
    OfScript holds paths (λ capture table script.
    IsToldOf (cases_wanted number) capture table script status text)
AnswersBy Certify paths number holds status text =
    OfScript holds paths (λ capture table script. IsToldOf Certificate capture table script status text)
AnswersBy Verify paths number holds status text =
    OfScript holds paths (λ capture table script. IfSome (bytes_at holds paths.certificate) (λ lines.
    IsVerifiedOf capture table script lines status text))
AnswersBy commands.Run paths number holds status text =
    (status ≡ 0) × OfCase holds paths (λ table script case. IsRunOf table script case number text)
AnswersBy Draw paths number holds status text =
    (status ≡ 0) × IfSome (bytes_at holds paths.script) (λ bytes. IsPictureOf bytes text)
AnswersBy DrawFound paths number holds status text =
    OfScript holds paths (λ capture table script. IsDrawnOf capture table script status text)

-- the status and the text are the request's answer, where the bytes of its files are known
abbrev pub AnswersTo : Request → Held → ℕ → List ℕ → Type 0
AnswersTo request holds status text = AnswersBy request.command request.paths request.number holds status text

-- the fault refuses a command with these files, where their bytes are known
abbrev pub RefusesBy : Command → Paths → Option ℕ → Held → Fault → Type 0
RefusesBy BuiltIn paths number holds fault =
    IsTellRefusal Report built_in.capture built_in.orders built_in.script fault
RefusesBy commands.Orders paths number holds fault = fault ≡ Memory
RefusesBy Show paths number holds fault =
    IfSome (bytes_at holds paths.shown) (λ capture. IsMemoryOrShowFault capture fault)
RefusesBy ShowMessage paths number holds fault =
    IfSome (bytes_at holds paths.message) (λ bytes. IsMessageRefusal bytes fault)
RefusesBy Judge paths number holds fault =
    OfMessage holds paths (λ capture table message. IsJudgeRefusal capture table message fault)
RefusesBy JudgeAfter paths number holds fault =
    OfMessage holds paths (λ capture table message.
    IfBoth (bytes_at holds paths.before) (bytes_at holds paths.answer) (λ before answer.
    IsJudgeAfterRefusal capture table before answer message fault))
RefusesBy Audit paths number holds fault =
    OfDialogue holds paths (λ capture table dialogue. IsAuditRefusal capture table dialogue fault)
RefusesBy AuditOwn paths number holds fault =
    OfOwnDialogue holds paths (λ table dialogue. IsOwnAuditRefusal table dialogue fault)
RefusesBy Record paths number holds fault =
    IfSome (bytes_at holds paths.dialogue) (λ dialogue. IsRecordRefusal dialogue fault)
RefusesBy Draft paths number holds fault =
    OfOwnDialogue holds paths (λ table dialogue. IsDraftRefusal table number dialogue fault)
RefusesBy DraftCase paths number holds fault =
    OfOwnDialogue holds paths (λ table dialogue. IsDraftRefusal table number dialogue fault)
RefusesBy Check paths number holds fault =
    OfScript holds paths (λ capture table script. IsTellRefusal Report capture table script fault)
RefusesBy Explain paths number holds fault =
    OfScript holds paths (λ capture table script.
    IsTellRefusal (cases_wanted number) capture table script fault)
RefusesBy Certify paths number holds fault =
    OfScript holds paths (λ capture table script. IsTellRefusal Certificate capture table script fault)
RefusesBy Verify paths number holds fault =
    OfScript holds paths (λ capture table script. IfSome (bytes_at holds paths.certificate) (λ lines.
    IsUnverified capture table script lines fault))
RefusesBy commands.Run paths number holds fault =
    OfCase holds paths (λ table script case. IsRunRefusal table script case number fault)
RefusesBy Draw paths number holds fault =
    IfSome (bytes_at holds paths.script) (λ bytes. IsPlanRefusal no_orders bytes fault)
RefusesBy DrawFound paths number holds fault =
    OfScript holds paths (λ capture table script. IsRefused capture table script fault)

-- the fault refuses the request, where the bytes of its files are known
abbrev pub RefusesRequest : Request → Held → Fault → Type 0
RefusesRequest request holds fault = RefusesBy request.command request.paths request.number holds fault

-- a command that reads files may have one that couldn't be read
abbrev pub HasFiles : Command → Type 0
HasFiles BuiltIn = ⊥
HasFiles commands.Orders = ⊥
HasFiles _ = Unit {0}

-- why the request has no answer; `Loading` says which files may be answered as unread
abbrev pub FailsFor : Request → Held → Failure → Type 0
FailsFor request holds (Input fault) = RefusesRequest request holds fault
FailsFor request holds (Unread input) = HasFiles request.command

-- this note is of the log in the recording, where its bytes are known
abbrev pub OfLog : Held → Paths → (LogValue → List ℕ) → List ℕ → Type 0
OfLog holds paths note_on note =
    (log : LogValue) × OfRecording holds paths (λ dialogue. IsLog dialogue log)
    × (note ≡ note_on log)

-- it is said beside a draft: what the recording passes over, and that a case holds a secret where it does
abbrev pub OfDraft : Held → Paths → Bool → Drafted → Option ℕ → List ℕ → Type 0
OfDraft holds paths hints drafted number note =
    (secret : Bool) × OfLog holds paths (λ log. log_note hints log ++ secrets_note drafted secret) note
    × OfOwnDialogue holds paths (λ table dialogue. HasDraft drafted number table dialogue secret)

-- what is said beside the answer of a command, whether hints are wanted or not
abbrev pub IsNoteBy : Command → Paths → Option ℕ → Bool → Held → List ℕ → Type 0
IsNoteBy Audit paths number hints holds note = OfLog holds paths (log_note hints) note
IsNoteBy AuditOwn paths number hints holds note = OfLog holds paths (log_note hints) note
IsNoteBy Record paths number hints holds note = OfLog holds paths record_note note
IsNoteBy Draft paths number hints holds note = OfDraft holds paths hints drafts.Script number note
IsNoteBy DraftCase paths number hints holds note = OfDraft holds paths hints drafts.Case number note
IsNoteBy _ paths number hints holds note = note ≡ []

abbrev pub IsNoteOf : Request → Held → List ℕ → Type 0
IsNoteOf request holds note = IsNoteBy request.command request.paths request.number request.hints holds note
