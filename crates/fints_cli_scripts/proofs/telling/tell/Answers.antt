use Rattle.std.proofs.Common.{rules}
use Rattle.std.proofs.lemmas.Result.{err_from_is_err_and}
use Rattle.fints_cli_scripts.proofs.Refusals.{unplanned_told}
use Rattle.fints_cli_scripts.proofs.ReportLemmas.{told_on, refused_on}
use Rattle.fints_cli_scripts.proofs.telling.tell.Goals as goal

pub returns-in_err-inputs-clause-refused : goal.returns-in_err-inputs-clause-refused
returns-in_err-inputs-clause-refused g c =
    let refused =
    unplanned_told c.args.wanted c.args.params.now c.args.orders.now c.args.script.now
    c.in_err-inputs.field-0.0 c.in_err-inputs.ensures.refused in
    search rules

pub returns-in_err-reply-clause-refused : goal.returns-in_err-reply-clause-refused
returns-in_err-reply-clause-refused g c =
    let refused =
    refused_on c.args.wanted c.args.params.now c.args.orders.now c.args.script.now
    c.in_ok-inputs.inputs.orders c.in_ok-inputs.inputs.script c.in_ok-plan.plan
    c.in_err-reply.field-0.0
    c.in_ok-inputs.ensures.table c.in_ok-inputs.ensures.script c.in_ok-plan.ensures.closed
    c.in_ok-plan.ensures.script c.in_ok-plan.ensures.orders c.in_err-reply.ensures.refused in
    let p = err_from_is_err_and c.from_residual-in_err-reply.result c.from_residual-in_err-reply.ensures.1 in
    rw (p.1, p.2) refused

pub returns-clause-told : goal.returns-clause-told
returns-clause-told g c =
    told_on c.args.wanted c.args.params.now c.args.orders.now c.args.script.now c.in_ok-inputs.inputs.orders
    c.in_ok-inputs.inputs.script c.in_ok-plan.plan c.in_ok-reply.reply.status
    c.in_ok-reply.reply.text.items
    c.in_ok-inputs.ensures.table c.in_ok-inputs.ensures.script c.in_ok-plan.ensures.closed
    c.in_ok-plan.ensures.script c.in_ok-plan.ensures.orders c.in_ok-reply.ensures.told
