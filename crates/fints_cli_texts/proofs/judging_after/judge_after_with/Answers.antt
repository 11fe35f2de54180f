use Rattle.std.proofs.Common.{List, IfOk, subst}
use Rattle.fints_params.specs.Parameters.{Rows}
use Rattle.fints_rules_permissions.specs.declared.orders.OrderRow.{OrderRow}
use Rattle.fints_cli_texts.specs.JudgeAfter.{IsVerdictAfterBy}
use Rattle.fints_cli_texts.specs.declared.reply.Reply.{Reply}
use Rattle.fints_cli_texts.proofs.judging_after.judge_after_with.Goals as goal

pub returns-clause-judged : goal.returns-clause-judged
returns-clause-judged g c =
    let made = c.in_ok-permissions.permissions in
    let before = c.args.before.now in
    let answer = c.args.answer.now in
    let message = c.args.message.now in
    let r = c.judge_behind.result in
    subst (λ (rows : Rows). IfOk r (λ (reply : Reply). IsVerdictAfterBy rows c.args.orders.now before answer message reply.status reply.text.items))
    c.in_ok-permissions.ensures.rows
    (subst (λ (orders : List OrderRow). IfOk r (λ (reply : Reply). IsVerdictAfterBy made.rows orders before answer message reply.status reply.text.items))
    c.in_ok-permissions.ensures.orders
    c.judge_behind.ensures.judged)
