use Rattle.std.proofs.Common.{ℕ, List, sym, subst}
use Rattle.fints_params.specs.Captures.{IsReadOf}
use Rattle.fints_cli_texts.proofs.JudgeLemmas.{params_refused}
use Rattle.fints_cli_texts.specs.Fault.{dialogue_fault_of, order_fault_of}
use Rattle.fints_cli_texts.proofs.AuditLemmas.{exit_refused, file_first, log_audited, log_read, log_turns_last, log_unread, refused_later, table_refused}
use Rattle.fints_cli_texts.specs.Audit.{IsAuditRefusal, IsDialogueRefusal, IsLogReadOf}
use Rattle.fints_cli_texts.proofs.auditing.audit_read.Goals as goal

pub returns-in-Err-clause-refused : goal.returns-in-Err-clause-refused
returns-in-Err-clause-refused g c =
    λ capture dialogue read of. subst (IsAuditRefusal capture c.args.orders.now dialogue) (sym c.from.ensures)
    (params_refused capture c.args.orders.now (IsDialogueRefusal dialogue) c.in-Err.fault
    (subst (IsReadOf capture) c.in-Err.is read))

pub returns-in_err-log-clause-refused : goal.returns-in_err-log-clause-refused
returns-in_err-log-clause-refused g c =
    let orders = c.args.orders.now in
    let log = c.args.log.now in
    let fault = c.in_err-log.field-0.0 in
    exit_refused c.from_residual-in_err-log.result (dialogue_fault_of fault)
    (λ f. (capture dialogue : List ℕ) → IsReadOf capture c.args.params → IsLogReadOf dialogue log
    → IsAuditRefusal capture orders dialogue f)
    c.from_residual-in_err-log.ensures.1
    (λ capture dialogue read of.
    refused_later capture orders dialogue c.in-Ok.params c.in_ok-orders.orders fault
    (subst (IsReadOf capture) c.in-Ok.is read) c.in_ok-orders.ensures.table
    (file_first dialogue fault (log_unread dialogue log fault c.in_err-log.ensures.refused of)))

pub returns-in_err-reply-clause-refused : goal.returns-in_err-reply-clause-refused
returns-in_err-reply-clause-refused g c =
    let orders = c.args.orders.now in
    let log = c.args.log.now in
    let good = c.in_ok-log.log.now in
    let fault = c.in_err-reply.field-0.0 in
    exit_refused c.from_residual-in_err-reply.result (dialogue_fault_of fault)
    (λ f. (capture dialogue : List ℕ) → IsReadOf capture c.args.params → IsLogReadOf dialogue log
    → IsAuditRefusal capture orders dialogue f)
    c.from_residual-in_err-reply.ensures.1
    (λ capture dialogue read of.
    refused_later capture orders dialogue c.in-Ok.params c.in_ok-orders.orders fault
    (subst (IsReadOf capture) c.in-Ok.is read) c.in_ok-orders.ensures.table
    (log_turns_last dialogue good fault (log_read dialogue log good c.in_ok-log.ensures.log of)
    c.in_err-reply.ensures.refused))

pub returns-clause-audited : goal.returns-clause-audited
returns-clause-audited g c =
    λ capture dialogue read of.
    let log = c.in_ok-log.log.now in
    log_audited capture c.args.orders.now dialogue c.in-Ok.params c.in_ok-orders.orders log
    c.in_ok-reply.reply.status c.in_ok-reply.reply.text.items (subst (IsReadOf capture) c.in-Ok.is read)
    c.in_ok-orders.ensures.table (log_read dialogue c.args.log.now log c.in_ok-log.ensures.log of)
    c.in_ok-reply.ensures.audited
