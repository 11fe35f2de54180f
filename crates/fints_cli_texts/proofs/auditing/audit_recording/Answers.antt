use Rattle.std.proofs.Common.{List, ap, ◌∙◌}
use Rattle.fints_rules_dialogues.specs.declared.auditing.Audited.{Audited}
use Rattle.fints_cli_texts.specs.Audit.{all_broken, audit_text}
use Rattle.fints_cli_texts.specs.Judge.{verdict_status}
use Rattle.fints_cli_texts.proofs.AuditLemmas.{audit_by}
use Rattle.fints_cli_texts.proofs.auditing.audit_recording.Goals as goal

pub returns-clause-audited : goal.returns-clause-audited
returns-clause-audited g c =
    let audited = c.in_ok-audited.audited.items in
    let text = c.in_ok-reply.ensures.text ∙ ap audit_text c.as_slice.ensures.value in
    let status =
    c.in_ok-reply.ensures.status ∙ ap (λ (all : List Audited). verdict_status (all_broken all)) c.as_slice.ensures.value in
    let turn = c.in_ok-audited.ensures.audited in (
      turn.0,
      turn.1,
      audit_by c.in_ok-permissions.permissions c.args.params.now c.args.orders.now turn.0 audited _ _
          c.in_ok-permissions.ensures.rows c.in_ok-permissions.ensures.orders turn.2 text status,
    )
