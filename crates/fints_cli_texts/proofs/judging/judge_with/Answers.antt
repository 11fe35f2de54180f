use Rattle.std.proofs.Common.{List, IfOk, subst}
use Rattle.fints_params.specs.Parameters.{Rows}
use Rattle.fints_rules_permissions.specs.declared.orders.OrderRow.{OrderRow}
use Rattle.fints_cli_texts.specs.Judge.{IsVerdictBy}
use Rattle.fints_cli_texts.specs.declared.reply.Reply.{Reply}
use Rattle.fints_cli_texts.proofs.judging.judge_with.Goals as goal

pub returns-clause-judged : goal.returns-clause-judged
returns-clause-judged g c =
    let made = c.in_ok-permissions.permissions in
    let message = c.args.message.now in
    let r = c.judge_by.result in
    subst (λ (rows : Rows). IfOk r (λ (reply : Reply). IsVerdictBy rows c.args.orders.now message reply.status reply.text.items))
    c.in_ok-permissions.ensures.rows
    (subst (λ (orders : List OrderRow). IfOk r (λ (reply : Reply). IsVerdictBy made.rows orders message reply.status reply.text.items))
    c.in_ok-permissions.ensures.orders
    c.judge_by.ensures.judged)
