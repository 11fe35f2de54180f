use Rattle.std.proofs.lemmas.Result.{err_from_is_err_and}
use Rattle.fints_cli.proofs.Refusals.{plan_refused}
use Rattle.fints_cli.proofs.reporting.report_text.Goals as goal

pub returns-in_err-reply-clause-refused : goal.returns-in_err-reply-clause-refused
returns-in_err-reply-clause-refused c =
    let refused = plan_refused c.args.params.now c.args.orders.now c.args.script.now c.in_err-reply.field-0.0 c.in_err-reply.ensures.refused in
    let p = err_from_is_err_and c.from_residual.result c.from_residual.ensures.1 in
    rw (p.1, p.2) refused
