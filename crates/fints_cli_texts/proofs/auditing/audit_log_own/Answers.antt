use Rattle.std.proofs.Common.{List, ap, subst, ◌∙◌}
use Rattle.std.proofs.lemmas.Result.{err_from_is_err_and}
use Rattle.fints_rules_dialogues.specs.declared.reading.Exchange.{Exchange}
use Rattle.fints_rules_dialogues.specs.Dialogues.{IsMemoryOrRefusal}
use Rattle.fints_rules_dialogues.specs.OwnParams.{IsOwnParamsFault}
use Rattle.fints_rules_dialogues.specs.declared.auditing.Audited.{Audited}
use Rattle.fints_cli_texts.specs.Audit.{all_broken, audit_text}
use Rattle.fints_cli_texts.specs.Judge.{verdict_status}
use Rattle.fints_cli_texts.proofs.AuditLemmas.{audit_each, params_last}
use Rattle.fints_cli_texts.proofs.auditing.audit_log_own.Goals as goal

pub returns-clause-audited : goal.returns-clause-audited
returns-clause-audited g c =
    let exchanges = c.in_ok-exchanges.exchanges.items in
    let audited = c.in_ok-audited.audited.items in
    let text = c.in_ok-reply.ensures.text ∙ ap audit_text c.as_slice-2.ensures.value in
    let status =
    c.in_ok-reply.ensures.status
    ∙ ap (λ (all : List Audited). verdict_status (all_broken all)) c.as_slice-2.ensures.value in
    let judged = rw c.as_slice.ensures.value at c.in_ok-audited.ensures.audited in
    let (granted, by, are) = judged c.in_ok-exchanges.ensures.each in (
      exchanges,
      granted,
      c.in_ok-exchanges.ensures.dialogue,
      by,
      audit_each granted exchanges audited c.in_ok-reply.reply.status c.in_ok-reply.reply.text.items are text status,
    )

pub returns-in_err-audited-clause-refused : goal.returns-in_err-audited-clause-refused
returns-in_err-audited-clause-refused g c =
    let fault = c.in_err-audited.field-0.0 in
    let p = err_from_is_err_and c.from_residual-in_err-audited.result c.from_residual-in_err-audited.ensures.1 in
    rw (p.1, p.2)
    (params_last c.args.log.now c.in_ok-exchanges.exchanges.items fault c.in_ok-exchanges.ensures.dialogue
    (subst (λ (xs : List Exchange). IsMemoryOrRefusal (IsOwnParamsFault xs) fault) c.as_slice.ensures.value
    c.in_err-audited.ensures.refused))
