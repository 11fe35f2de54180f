use Rattle.std.proofs.Common.{sym, subst}
use Rattle.fints_cli_scripts.specs.Plans.{IsPlanRefusal}
use Rattle.fints_cli_scripts.proofs.Refusals.{script_refused}
use Rattle.fints_cli_scripts.proofs.inputs.read_inputs.Goals as goal

pub returns-in-Err-clause-refused : goal.returns-in-Err-clause-refused
returns-in-Err-clause-refused c =
    subst (IsPlanRefusal c.args.orders.now c.args.script.now) (sym c.from.ensures)
    (script_refused c.args.orders.now c.args.script.now c.in_ok-orders.orders c.in-Err.fault
    c.in_ok-orders.ensures.table c.in-Err.ensures.fault)
