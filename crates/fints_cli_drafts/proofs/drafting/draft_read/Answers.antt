use Rattle.std.proofs.Common.{List, ℕ, Option, inl, inr}
use Rattle.std.proofs.lemmas.Result.{IfErr-weaker, IfOk-weaker}
use Rattle.fints_rules_permissions.specs.declared.orders.OrderRow.{OrderRow}
use Rattle.fints_rules_permissions.specs.Orders.{DenotesTable}
use Rattle.fints_rules_dialogues.specs.declared.fault.DialogueFault.{DialogueFault}
use Rattle.fints_rules_dialogues.specs.declared.fault.DialogueFault.TheVariants as dialogues
use Rattle.fints_rules_dialogues.specs.declared.reading.Exchange.{Exchange}
use Rattle.fints_rules_dialogues.specs.Dialogues.{IsDialogue, IsDialogueFault, IsMemoryOrRefusal}
use Rattle.fints_cli_texts.specs.declared.fault.Fault.{Fault}
use Rattle.fints_cli_texts.specs.declared.fault.Fault.TheVariants.{Memory, NoPart, NotDraftable}
use Rattle.fints_cli_texts.specs.Audit.{IsLogReadOf}
use Rattle.fints_cli_texts.specs.Fault.{dialogue_fault_of}
use Rattle.fints_cli_texts.proofs.AuditLemmas.{exit_refused, file_first, log_read, log_turns_last, log_unread}
use Rattle.fints_cli_drafts.specs.Drafts.{IsDraftRefusal, IsUndrafted}
use Rattle.fints_cli_drafts.proofs.drafting.draft_read.Goals as goal

-- what refuses a dialogue after a good order table refuses its draft
dialogue_refused : (text : List ℕ) (number : Option ℕ) (dialogue : List ℕ) (table : List OrderRow)
    (f : DialogueFault) → DenotesTable text table → IsMemoryOrRefusal (IsDialogueFault dialogue) f
    → IsDraftRefusal text number dialogue (dialogue_fault_of f)
dialogue_refused text number dialogue table dialogues.Memory h r = tt
dialogue_refused text number dialogue table dialogues.NoMessage h (inl e) = absurd cc
dialogue_refused text number dialogue table dialogues.NoMessage h (inr p) = ((table, h), p)
dialogue_refused text number dialogue table (dialogues.NotAMessage offset) h (inl e) = absurd cc
dialogue_refused text number dialogue table (dialogues.NotAMessage offset) h (inr p) = ((table, h), p)
dialogue_refused text number dialogue table (dialogues.NotInTurn offset) h (inl e) = absurd cc
dialogue_refused text number dialogue table (dialogues.NotInTurn offset) h (inr p) = ((table, h), p)
dialogue_refused text number dialogue table (dialogues.Answer start f) h (inl e) = absurd cc
dialogue_refused text number dialogue table (dialogues.Answer start f) h (inr p) = ((table, h), p)
dialogue_refused text number dialogue table dialogues.NoParameters h (inl e) = absurd cc
dialogue_refused text number dialogue table dialogues.NoParameters h (inr p) = ((table, h), p)

-- what refuses the exchanges of a dialogue refuses its draft
undrafted_refused : (text : List ℕ) (number : Option ℕ) (dialogue : List ℕ) (table : List OrderRow)
    (exchanges : List Exchange) (f : Fault) → DenotesTable text table → IsDialogue dialogue exchanges
    → IsUndrafted exchanges number f → IsDraftRefusal text number dialogue f
undrafted_refused text number dialogue table exchanges Memory h is p = tt
undrafted_refused text number dialogue table exchanges (NoPart n) h is p = ((table, h), (exchanges, is, p.0, p.1))
undrafted_refused text number dialogue table exchanges (NotDraftable m s) h is p = ((table, h), (exchanges, is, p))
undrafted_refused text number dialogue table exchanges _ h is p = absurd p

pub returns-in_err-log-clause-refused : goal.returns-in_err-log-clause-refused
returns-in_err-log-clause-refused g c =
    let orders = c.args.orders.now in
    let read = c.args.log.now in
    let fault = c.in_err-log.field-0.0 in
    exit_refused c.from_residual-in_err-log.result (dialogue_fault_of fault)
    (λ f. (dialogue : List ℕ) → IsLogReadOf dialogue read → IsDraftRefusal orders c.args.number dialogue f)
    c.from_residual-in_err-log.ensures.1
    (λ dialogue h.
    dialogue_refused orders c.args.number dialogue c.in_ok-orders.orders fault c.in_ok-orders.ensures.table
    (file_first dialogue fault (log_unread dialogue read fault c.in_err-log.ensures.refused h)))

pub returns-in_err-exchanges-clause-refused : goal.returns-in_err-exchanges-clause-refused
returns-in_err-exchanges-clause-refused g c =
    let orders = c.args.orders.now in
    let read = c.args.log.now in
    let log = c.in_ok-log.log.now in
    let fault = c.in_err-exchanges.field-0.0 in
    exit_refused c.from_residual-in_err-exchanges.result (dialogue_fault_of fault)
    (λ f. (dialogue : List ℕ) → IsLogReadOf dialogue read → IsDraftRefusal orders c.args.number dialogue f)
    c.from_residual-in_err-exchanges.ensures.1
    (λ dialogue h.
    dialogue_refused orders c.args.number dialogue c.in_ok-orders.orders fault c.in_ok-orders.ensures.table
    (log_turns_last dialogue log fault (log_read dialogue read log c.in_ok-log.ensures.log h)
    c.in_err-exchanges.ensures.refused))

pub returns-clause-draft : goal.returns-clause-draft
returns-clause-draft g c =
    let log = c.in_ok-log.log.now in
    IfOk-weaker c.draft_part.result _ _
    (λ it h dialogue read. (
      c.in_ok-orders.orders,
      c.in_ok-exchanges.exchanges.items,
      c.in_ok-orders.ensures.table,
      (log, log_read dialogue c.args.log.now log c.in_ok-log.ensures.log read, c.in_ok-exchanges.ensures.dialogue),
      rw c.as_slice.ensures.value at h,
    ))
    c.draft_part.ensures.draft

pub returns-clause-refused : goal.returns-clause-refused
returns-clause-refused g c =
    let log = c.in_ok-log.log.now in
    IfErr-weaker c.draft_part.result _ _
    (λ f h dialogue read.
    undrafted_refused c.args.orders.now c.args.number dialogue c.in_ok-orders.orders c.in_ok-exchanges.exchanges.items f
    c.in_ok-orders.ensures.table
    (log, log_read dialogue c.args.log.now log c.in_ok-log.ensures.log read, c.in_ok-exchanges.ensures.dialogue)
    (rw c.as_slice.ensures.value at h))
    c.draft_part.ensures.refused
