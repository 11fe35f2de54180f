use Rattle.std.proofs.Common.{rules}
use Rattle.std.proofs.lemmas.Result.{err_from_is_err_and}
use Rattle.fints_cli_scripts.proofs.Refusals.{planned_refused, unplanned_run}
use Rattle.fints_cli_scripts.proofs.running.run_case.Goals as goal

pub returns-in_err-inputs-clause-refused : goal.returns-in_err-inputs-clause-refused
returns-in_err-inputs-clause-refused c =
    let refused = unplanned_run c.args.orders.now c.args.script.now c.args.case.now c.args.only c.in_err-inputs.field-0.0 c.in_err-inputs.ensures.refused in
    search rules

pub returns-in_err-text-clause-refused : goal.returns-in_err-text-clause-refused
returns-in_err-text-clause-refused c =
    let refused =
    planned_refused c.args.orders.now c.args.script.now c.args.case.now c.in_ok-plan.plan.script
    c.args.only c.in_err-text.field-0.0 (search rules) c.in_err-text.ensures.refused in
    let p = err_from_is_err_and c.from_residual-in_err-text.result c.from_residual-in_err-text.ensures.1 in
    rw (p.1, p.2) refused
