-- The lines of audited messages; and what refuses an input of `audit` is the refusal of the call.
use Rattle.std.proofs.Common.{◌≡◌, ℕ, ◌+◌, ◌<◌, Bool, if◌then◌else◌, List, ◌∷◌, ◌++◌, length, get_or, drop, ap, ◌∙◌, sym, subst, append_assoc, inl, inr, None, Result, Ok, Err, IfErr}
use Rattle.std.specs.Result.{IsErrAnd}
use Rattle.std.proofs.lemmas.List.{drop_more}
use Rattle.fints_params.specs.Parameters.{Rows}
use Rattle.fints_params.specs.Captures.{IsParamsOf}
use Rattle.fints_rules_permissions.specs.declared.orders.OrderRow.{OrderRow}
use Rattle.fints_rules_permissions.specs.declared.orders.TableFault.{TableFault}
use Rattle.fints_rules_permissions.specs.Orders.{DenotesTable, IsTableFault}
use Rattle.fints_rules_dialogues.specs.declared.auditing.Audited.{Audited}
use Rattle.fints_rules_dialogues.specs.declared.messages.RecordedMessage.{RecordedMessage}
use Rattle.fints_rules_dialogues.specs.declared.fault.DialogueFault.{DialogueFault}
use Rattle.fints_rules_dialogues.specs.declared.fault.DialogueFault.TheVariants as dialogues
use Rattle.fints_rules_dialogues.specs.declared.reading.Exchange.{Exchange}
use Rattle.fints_rules_logs.specs.Kept.{IsLog, LogValue}
use Rattle.fints_rules_dialogues.specs.Dialogues.{AreSent, IsDialogueFault, IsDialogueOf, IsFileFault, IsMemoryOrRefusal, IsTurnFault, IsTurnFaultOf}
use Rattle.fints_rules_dialogues.specs.OwnParams.{IsOwnParamsFault}
use Rattle.fints_rules_permissions.specs.Permits.{Granted}
use Rattle.fints_rules_dialogues.specs.Auditing.{AreAudited, ArePermitted, same_for}
use Rattle.fints_rules_dialogues.proofs.Audits.{all_permitted}
use Rattle.fints_cli_texts.proofs.Endings.{permitted_is_none}
use Rattle.fints_cli_texts.proofs.JudgeLemmas.{orders_refused}
use Rattle.fints_cli_texts.specs.Judge.{verdict_status, EndsPermitted}
use Rattle.fints_cli_texts.specs.declared.fault.Fault.{Fault}
use Rattle.fints_cli_texts.specs.declared.fault.Fault.TheVariants.{Memory, Dialogue}
use Rattle.fints_cli_texts.specs.Fault.{dialogue_fault_of, order_fault_of}
use Rattle.fints_cli_texts.specs.Audit.{all_broken, are_several, audit_text, dialogue_line, granted_by, message_lines, lines_from, IsAuditBy, IsAuditOf, IsDialogueRefusal, IsAuditRefusal, IsLogAudit, IsLogReadOf, IsOwnAuditOf, IsOwnFault, IsOwnAuditRefusal, IsOwnLogAudit, IsOwnLogFault}

-- ---- lines

-- the lines of a message, and those that are left after it
pub line_more : (xs : List Audited) (several : Bool) (d i : ℕ) (a : Audited) (text : List ℕ) → i < length xs
    → a ≡ get_or xs i a
    → ((text ++ dialogue_line several d a) ++ message_lines (i + 1) a)
    ++ lines_from several (if a.begins then d + 1 else d) (i + 1 + 1) (drop (i + 1) xs)
    ≡ text ++ lines_from several d (i + 1) (drop i xs)
line_more xs several d i a text lt is =
    let rest = lines_from several (if a.begins then d + 1 else d) (i + 1 + 1) (drop (i + 1) xs) in
    ap (λ front. front ++ rest) (append_assoc text (dialogue_line several d a) (message_lines (i + 1) a))
    ∙ append_assoc text (dialogue_line several d a ++ message_lines (i + 1) a) rest
    ∙ ap (λ ys. text ++ lines_from several d (i + 1) ys)
    (sym (drop_more xs i a lt ∙ ap (λ x. x ∷ drop (i + 1) xs) (sym is)))

-- where the text ends with `permitted`, each message is
audit_permits : (granted : List Granted) (exchanges : List Exchange) (audited : List Audited) (text : List ℕ)
    → AreAudited granted exchanges audited → text ≡ audit_text audited → EndsPermitted text
    → ArePermitted granted exchanges
audit_permits granted exchanges audited text are is ends =
    all_permitted granted None exchanges audited are
    (permitted_is_none (all_broken audited) (lines_from (are_several audited) 1 1 audited) text is ends)

-- the text of audited messages is that of the audit by their permissions
pub audit_each : (granted : List Granted) (exchanges : List Exchange) (audited : List Audited) (status : ℕ)
    (text : List ℕ) → AreAudited granted exchanges audited → text ≡ audit_text audited
    → status ≡ verdict_status (all_broken audited) → IsAuditBy granted exchanges status text
audit_each granted exchanges audited status text are text_is status_is = record {
  audited = audited;
  are = are;
  text_is = text_is;
  status_is = status_is;
  permitted = audit_permits granted exchanges audited text are text_is;
}

-- the same by these rows and this order table
pub audit_by : (made : Granted) (rows : Rows) (table : List OrderRow) (exchanges : List Exchange)
    (audited : List Audited) (status : ℕ) (text : List ℕ) → made.rows ≡ rows → made.orders ≡ table
    → AreAudited (same_for made exchanges) exchanges audited → text ≡ audit_text audited
    → status ≡ verdict_status (all_broken audited)
    → IsAuditBy (granted_by rows table exchanges) exchanges status text
audit_by made rows table exchanges audited status text r o are text_is status_is =
    let by : AreAudited (granted_by rows table exchanges) exchanges audited =
    subst (λ (xs : Rows). AreAudited (granted_by xs table exchanges) exchanges audited) r
    (subst (λ (xs : List OrderRow). AreAudited (granted_by made.rows xs exchanges) exchanges audited) o are) in
    audit_each (granted_by rows table exchanges) exchanges audited status text by text_is status_is

-- ---- refusals

-- what the exit of a `?` returns
pub exit_refused : {T : Type 0} (r : Result T Fault) (e : Fault) (P : Fault → Type 0)
    → IsErrAnd r (λ f. f ≡ e) → P e → IfErr r P
exit_refused (Ok v) e P is p = tt
exit_refused (Err f) e P is p = subst P (sym is) p

pub dialogue_refused : (dialogue : List ℕ) (f : DialogueFault)
    → IsMemoryOrRefusal (IsDialogueFault dialogue) f
    → IsDialogueRefusal dialogue (dialogue_fault_of f)
dialogue_refused dialogue dialogues.Memory h = tt
dialogue_refused dialogue dialogues.NoMessage (inl e) = absurd (cc)
dialogue_refused dialogue dialogues.NoMessage (inr p) = p
dialogue_refused dialogue (dialogues.NotAMessage offset) (inl e) = absurd (cc)
dialogue_refused dialogue (dialogues.NotAMessage offset) (inr p) = p
dialogue_refused dialogue (dialogues.NotInTurn offset) (inl e) = absurd (cc)
dialogue_refused dialogue (dialogues.NotInTurn offset) (inr p) = p
dialogue_refused dialogue (dialogues.Answer start f) (inl e) = absurd (cc)
dialogue_refused dialogue (dialogues.Answer start f) (inr p) = p
dialogue_refused dialogue dialogues.NoParameters (inl e) = absurd (cc)
dialogue_refused dialogue dialogues.NoParameters (inr p) = p

-- a refusal after a good capture
pub table_refused : (capture table dialogue : List ℕ) (rows : Rows) (f : TableFault) → IsParamsOf capture rows
    → IsTableFault table f → IsAuditRefusal capture table dialogue (order_fault_of f)
table_refused capture table dialogue = orders_refused capture table (IsDialogueRefusal dialogue)

-- a refusal after a good capture and a good order table
later_refused : (capture table dialogue : List ℕ) (rows : Rows) (orders : List OrderRow) (f : Fault)
    → IsParamsOf capture rows → DenotesTable table orders → IsDialogueRefusal dialogue f
    → IsAuditRefusal capture table dialogue f
later_refused capture table dialogue rows orders Memory h i p = tt
later_refused capture table dialogue rows orders (Dialogue f) h i p = (record { rows = rows; table = orders; rows_are = h; table_is = i }, p)
later_refused capture table dialogue rows orders _ h i p = absurd p

pub refused_later : (capture table dialogue : List ℕ) (rows : Rows)
    (orders : List OrderRow) (f : DialogueFault)
    → IsParamsOf capture rows → DenotesTable table orders → IsMemoryOrRefusal (IsDialogueFault dialogue) f
    → IsAuditRefusal capture table dialogue (dialogue_fault_of f)
refused_later capture table dialogue rows orders f h i p =
    later_refused capture table dialogue rows orders (dialogue_fault_of f) h i (dialogue_refused dialogue f p)

pub own_refused : (table dialogue : List ℕ) (orders : List OrderRow) (f : DialogueFault)
    → DenotesTable table orders → IsMemoryOrRefusal (IsOwnFault dialogue) f
    → IsOwnAuditRefusal table dialogue (dialogue_fault_of f)
own_refused table dialogue orders dialogues.Memory h p = tt
own_refused table dialogue orders dialogues.NoMessage h (inl e) = absurd (cc)
own_refused table dialogue orders dialogues.NoMessage h (inr p) = ((orders, h), p)
own_refused table dialogue orders (dialogues.NotAMessage offset) h (inl e) = absurd (cc)
own_refused table dialogue orders (dialogues.NotAMessage offset) h (inr p) = ((orders, h), p)
own_refused table dialogue orders (dialogues.NotInTurn offset) h (inl e) = absurd (cc)
own_refused table dialogue orders (dialogues.NotInTurn offset) h (inr p) = ((orders, h), p)
own_refused table dialogue orders (dialogues.Answer start f) h (inl e) = absurd (cc)
own_refused table dialogue orders (dialogues.Answer start f) h (inr p) = ((orders, h), p)
own_refused table dialogue orders dialogues.NoParameters h (inl e) = absurd (cc)
own_refused table dialogue orders dialogues.NoParameters h (inr p) = ((orders, h), p)

-- what refuses the messages of a log, and what refuses their parameters where they are a dialogue
pub dialogue_first : (log : LogValue) (f : DialogueFault) → IsMemoryOrRefusal (IsTurnFaultOf log) f
    → IsMemoryOrRefusal (IsOwnLogFault log) f
dialogue_first log f (inl e) = inl e
dialogue_first log f (inr p) = inr (inl p)

pub params_last : (log : LogValue) (exchanges : List Exchange) (f : DialogueFault)
    → IsDialogueOf log exchanges → IsMemoryOrRefusal (IsOwnParamsFault exchanges) f
    → IsMemoryOrRefusal (IsOwnLogFault log) f
params_last log exchanges f is (inl e) = inl e
params_last log exchanges f is (inr p) = inr (inr (exchanges, is, p))

-- what refuses the file, and what refuses the log that it is
pub own_file_first : (dialogue : List ℕ) (f : DialogueFault) → IsMemoryOrRefusal (IsFileFault dialogue) f
    → IsMemoryOrRefusal (IsOwnFault dialogue) f
own_file_first dialogue f (inl e) = inl e
own_file_first dialogue f (inr p) = inr (inl (inl p))

pub own_log_last : (dialogue : List ℕ) (log : LogValue) (f : DialogueFault) → IsLog dialogue log
    → IsMemoryOrRefusal (IsOwnLogFault log) f → IsMemoryOrRefusal (IsOwnFault dialogue) f
own_log_last dialogue log f is (inl e) = inl e
own_log_last dialogue log f is (inr (inl p)) = inr (inl (inr (log, is, p)))
own_log_last dialogue log f is (inr (inr (exchanges, of, p))) = inr (inr (exchanges, (log, is, of), p))

-- what was read of a file
pub log_read : (dialogue : List ℕ) (read : Result LogValue DialogueFault) (log : LogValue) → read ≡ Ok log
    → IsLogReadOf dialogue read → IsLog dialogue log
log_read dialogue read log is h = subst (IsLogReadOf dialogue) is h

pub log_unread : (dialogue : List ℕ) (read : Result LogValue DialogueFault) (f : DialogueFault) → read ≡ Err f
    → IsLogReadOf dialogue read → IsMemoryOrRefusal (IsFileFault dialogue) f
log_unread dialogue read f is h = subst (IsLogReadOf dialogue) is h

-- the audit of a log is that of the file
pub log_audited : (capture orders dialogue : List ℕ) (rows : Rows) (table : List OrderRow) (log : LogValue)
    (status : ℕ) (text : List ℕ) → IsParamsOf capture rows → DenotesTable orders table → IsLog dialogue log
    → IsLogAudit rows table log status text → IsAuditOf capture orders dialogue status text
log_audited capture orders dialogue rows table log status text p t is (exchanges, of, by) = record {
  rows = rows;
  table = table;
  exchanges = exchanges;
  rows_are = p;
  table_is = t;
  dialogue_is = (log, is, of);
  audit = by;
}

pub own_log_audited : (orders dialogue : List ℕ) (table : List OrderRow) (log : LogValue) (status : ℕ)
    (text : List ℕ) → DenotesTable orders table → IsLog dialogue log → IsOwnLogAudit table log status text
    → IsOwnAuditOf orders dialogue status text
own_log_audited orders dialogue table log status text t is (exchanges, granted, of, by, audit) = record {
  table = table;
  exchanges = exchanges;
  granted = granted;
  table_is = t;
  dialogue_is = (log, is, of);
  granted_are = by;
  audit = audit;
}

-- what refuses the file, and what refuses its messages
pub file_first : (dialogue : List ℕ) (f : DialogueFault) → IsMemoryOrRefusal (IsFileFault dialogue) f
    → IsMemoryOrRefusal (IsDialogueFault dialogue) f
file_first dialogue f (inl e) = inl e
file_first dialogue f (inr p) = inr (inl p)

pub turns_last : (log : LogValue) (messages : List RecordedMessage) (f : DialogueFault) → AreSent log messages
    → IsMemoryOrRefusal (IsTurnFault messages) f → IsMemoryOrRefusal (IsTurnFaultOf log) f
turns_last log messages f sent (inl e) = inl e
turns_last log messages f sent (inr p) = inr (messages, sent, p)

pub log_turns_last : (dialogue : List ℕ) (log : LogValue) (f : DialogueFault) → IsLog dialogue log
    → IsMemoryOrRefusal (IsTurnFaultOf log) f → IsMemoryOrRefusal (IsDialogueFault dialogue) f
log_turns_last dialogue log f is (inl e) = inl e
log_turns_last dialogue log f is (inr p) = inr (inr (log, is, p))
