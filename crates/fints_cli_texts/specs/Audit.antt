-- The text of `audit`: for each message of the client its number and its size, and then the rules that it
-- breaks; in lines with LF at their ends. Words of private contracts come last, under a heading.
use Rattle.std.specs.Prelude.{◌≡◌, ◌⊎◌, Result, Ok, Err, ℕ, ◌+◌, ◌&&◌, Bool, List, [], ◌∷◌, ◌++◌, length, drop, if◌then◌else◌, codes}
use Rattle.std.specs.List.{flat_map, list_any}
use Rattle.std.specs.Fmt.{decimal}
use Rattle.fints_params.specs.Parameters.{Rows}
use Rattle.fints_params.specs.Captures.{IsParamsOf}
use Rattle.fints_rules_permissions.specs.declared.orders.OrderRow.{OrderRow}
use Rattle.fints_rules_permissions.specs.Orders.{DenotesTable}
use Rattle.fints_rules_permissions.specs.Permits.{Granted}
use Rattle.fints_rules.specs.declared.rule.Broken.{Broken}
use Rattle.fints_rules_dialogues.specs.declared.auditing.Audited.{Audited}
use Rattle.fints_rules_dialogues.specs.declared.messages.RecordedMessage.{RecordedMessage}
use Rattle.fints_rules_dialogues.specs.declared.fault.DialogueFault.{DialogueFault}
use Rattle.fints_rules_dialogues.specs.declared.reading.Exchange.{Exchange}
use Rattle.fints_rules_logs.specs.Kept.{IsLog, LogValue}
use Rattle.fints_rules_dialogues.specs.Dialogues.{AreInTurn, IsDialogue, IsDialogueFault, IsDialogueOf, IsFileFault, IsMemoryOrRefusal, IsTurnFaultOf}
use Rattle.fints_rules_dialogues.specs.OwnParams.{GrantsEach, IsOwnParamsFault}
use Rattle.fints_rules_dialogues.specs.Auditing.{AreAudited, ArePermitted, same_for}
use Rattle.fints_cli_texts.specs.Judge.{broken_line, last_line, verdict_status, EndsPermitted, IsFirstRefusal, IsTableRefusal}
use Rattle.fints_cli_texts.specs.declared.fault.Fault.{Fault}
use Rattle.fints_cli_texts.specs.declared.fault.Fault.TheVariants.{Memory, Orders, Dialogue}

abbrev pub broken_told : Broken → List ℕ
broken_told b = codes "broken " ++ broken_line b

-- the lines of the message of a number, which counts the client's from 1
abbrev pub message_lines : ℕ → Audited → List ℕ
message_lines n a =
    codes "message " ++ decimal n ++ codes " size " ++ decimal (length a.sent.bytes.now) ++ codes "\n"
    ++ flat_map broken_told a.broken.items

-- a message other than the first begins a dialogue
abbrev pub are_several : List Audited → Bool
are_several audited = list_any (λ a. a.begins) (drop 1 audited)

-- where there are several dialogues, the line of the dialogue of a number, before its first message
abbrev pub dialogue_line : Bool → ℕ → Audited → List ℕ
dialogue_line several d a = if (several && a.begins) then codes "dialogue " ++ decimal d ++ codes "\n" else []

-- the lines of messages from number n on; the next dialogue that begins has number d
abbrev pub lines_from : Bool → ℕ → ℕ → List Audited → List ℕ
lines_from several d n [] = []
lines_from several d n (a ∷ more) =
    (dialogue_line several d a ++ message_lines n a)
    ++ lines_from several (if a.begins then d + 1 else d) (n + 1) more

-- what was read of a file: the log that it is, or why it is none
abbrev pub IsLogReadOf : List ℕ → Result LogValue DialogueFault → Type 0
IsLogReadOf file (Ok log) = IsLog file log
IsLogReadOf file (Err f) = IsMemoryOrRefusal (IsFileFault file) f

-- what all messages break
abbrev pub all_broken : List Audited → List Broken
all_broken audited = flat_map (λ a. a.broken.items) audited

abbrev pub audit_text : List Audited → List ℕ
audit_text audited = lines_from (are_several audited) 1 1 audited ++ last_line (all_broken audited)

-- the status and the text name the rules that the messages break, each by its own permissions; where the text
-- ends with `permitted`, each message is permitted after those before it
pub record IsAuditBy (granted : List Granted) (exchanges : List Exchange) (status : ℕ) (text : List ℕ)
    : Type 0 where
  pub audited : List Audited
  pub are : AreAudited granted exchanges audited
  pub text_is : text ≡ audit_text audited
  pub status_is : status ≡ verdict_status (all_broken audited)
  pub permitted : EndsPermitted text → ArePermitted granted exchanges

-- all messages are judged by these rows and this order table
abbrev pub granted_by : Rows → List OrderRow → List Exchange → List Granted
granted_by rows table exchanges = same_for (record { rows = rows; orders = table }) exchanges

-- they name them of the dialogue, by the capture and the text of an order table
pub record IsAuditOf (params orders dialogue : List ℕ) (status : ℕ) (text : List ℕ) : Type 0 where
  pub rows : Rows
  pub table : List OrderRow
  pub exchanges : List Exchange
  pub rows_are : IsParamsOf params rows
  pub table_is : DenotesTable orders table
  pub dialogue_is : IsDialogue dialogue exchanges
  pub audit : IsAuditBy (granted_by rows table exchanges) exchanges status text

-- they name them by the parameters of the dialogue's own answers
pub record IsOwnAuditOf (orders dialogue : List ℕ) (status : ℕ) (text : List ℕ) : Type 0 where
  pub table : List OrderRow
  pub exchanges : List Exchange
  pub granted : List Granted
  pub table_is : DenotesTable orders table
  pub dialogue_is : IsDialogue dialogue exchanges
  pub granted_are : GrantsEach table exchanges granted
  pub audit : IsAuditBy granted exchanges status text

-- out of memory, or the refusal of the dialogue
abbrev pub IsDialogueRefusal : List ℕ → Fault → Type 0
IsDialogueRefusal dialogue Memory = Unit {0}
IsDialogueRefusal dialogue (Dialogue f) = IsDialogueFault dialogue f
IsDialogueRefusal dialogue _ = ⊥

-- why a dialogue isn't audited, by the capture and the text of an order table
abbrev pub IsAuditRefusal : List ℕ → List ℕ → List ℕ → Fault → Type 0
IsAuditRefusal params orders dialogue = IsFirstRefusal params orders (IsDialogueRefusal dialogue)

-- the dialogue is refused, or it is one and an answer is refused as a capture, or the bank of a message sends no parameters
abbrev pub IsOwnFault : List ℕ → DialogueFault → Type 0
IsOwnFault dialogue f =
    IsDialogueFault dialogue f
    ⊎ ((exchanges : List Exchange) × IsDialogue dialogue exchanges × IsOwnParamsFault exchanges f)

-- why it isn't audited by its own parameters: out of memory, or the first refusal, of the order table or of the dialogue
abbrev pub IsOwnAuditRefusal : List ℕ → List ℕ → Fault → Type 0
IsOwnAuditRefusal orders dialogue Memory = Unit {0}
IsOwnAuditRefusal orders dialogue (Orders f) = IsTableRefusal orders f
IsOwnAuditRefusal orders dialogue (Dialogue f) =
    ((table : List OrderRow) × DenotesTable orders table) × IsOwnFault dialogue f
IsOwnAuditRefusal orders dialogue _ = ⊥

-- ---- of private contracts only

-- the status and the text name the rules that the messages of a recording break
abbrev pub IsRecordingAudit : Rows → List OrderRow → List RecordedMessage → ℕ → List ℕ → Type 0
IsRecordingAudit rows table messages status text =
    (exchanges : List Exchange) × AreInTurn messages exchanges []
    × IsAuditBy (granted_by rows table exchanges) exchanges status text

-- they name those that the messages of the dialogue in a log break
abbrev pub IsLogAudit : Rows → List OrderRow → LogValue → ℕ → List ℕ → Type 0
IsLogAudit rows table log status text =
    (exchanges : List Exchange) × IsDialogueOf log exchanges
    × IsAuditBy (granted_by rows table exchanges) exchanges status text

-- the same by the parameters of the dialogue's own answers
abbrev pub IsOwnLogAudit : List OrderRow → LogValue → ℕ → List ℕ → Type 0
IsOwnLogAudit table log status text =
    (exchanges : List Exchange) × (granted : List Granted) × IsDialogueOf log exchanges
    × GrantsEach table exchanges granted × IsAuditBy granted exchanges status text

-- the messages of a log are refused, or an answer as a capture, or the bank of a message sends no parameters
abbrev pub IsOwnLogFault : LogValue → DialogueFault → Type 0
IsOwnLogFault log f =
    IsTurnFaultOf log f
    ⊎ ((exchanges : List Exchange) × IsDialogueOf log exchanges × IsOwnParamsFault exchanges f)
