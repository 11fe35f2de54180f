use Rattle.std.proofs.Common.{List, ℕ}
use Rattle.fints_cli_texts.specs.Fault.{dialogue_fault_of}
use Rattle.fints_cli_texts.specs.Audit.{IsLogReadOf, IsOwnAuditRefusal}
use Rattle.fints_cli_texts.proofs.AuditLemmas.{exit_refused, log_read, log_unread, own_file_first, own_log_audited, own_log_last, own_refused}
use Rattle.fints_cli_texts.proofs.auditing.audit_own.Goals as goal

pub returns-in_err-log-clause-refused : goal.returns-in_err-log-clause-refused
returns-in_err-log-clause-refused g c =
    let orders = c.args.orders.now in
    let read = c.args.log.now in
    let fault = c.in_err-log.field-0.0 in
    exit_refused c.from_residual-in_err-log.result (dialogue_fault_of fault)
    (λ f. (dialogue : List ℕ) → IsLogReadOf dialogue read → IsOwnAuditRefusal orders dialogue f)
    c.from_residual-in_err-log.ensures.1
    (λ dialogue h.
    own_refused orders dialogue c.in_ok-orders.orders fault c.in_ok-orders.ensures.table
    (own_file_first dialogue fault (log_unread dialogue read fault c.in_err-log.ensures.refused h)))

pub returns-in_err-reply-clause-refused : goal.returns-in_err-reply-clause-refused
returns-in_err-reply-clause-refused g c =
    let orders = c.args.orders.now in
    let read = c.args.log.now in
    let log = c.in_ok-log.log.now in
    let fault = c.in_err-reply.field-0.0 in
    exit_refused c.from_residual-in_err-reply.result (dialogue_fault_of fault)
    (λ f. (dialogue : List ℕ) → IsLogReadOf dialogue read → IsOwnAuditRefusal orders dialogue f)
    c.from_residual-in_err-reply.ensures.1
    (λ dialogue h.
    own_refused orders dialogue c.in_ok-orders.orders fault c.in_ok-orders.ensures.table
    (own_log_last dialogue log fault (log_read dialogue read log c.in_ok-log.ensures.log h)
    c.in_err-reply.ensures.refused))

pub returns-clause-audited : goal.returns-clause-audited
returns-clause-audited g c =
    λ dialogue h.
    let log = c.in_ok-log.log.now in
    own_log_audited c.args.orders.now dialogue c.in_ok-orders.orders log c.in_ok-reply.reply.status
    c.in_ok-reply.reply.text.items c.in_ok-orders.ensures.table
    (log_read dialogue c.args.log.now log c.in_ok-log.ensures.log h) c.in_ok-reply.ensures.audited
