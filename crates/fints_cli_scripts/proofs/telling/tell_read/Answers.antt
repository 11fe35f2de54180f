use Rattle.std.proofs.Common.{sym, subst}
use Rattle.fints_params.specs.Captures.{IsReadOf}
use Rattle.fints_cli_scripts.specs.Told.{IsTellRefusal}
use Rattle.fints_cli_scripts.proofs.Refusals.{params_told}
use Rattle.fints_cli_scripts.proofs.telling.tell_read.Goals as goal

pub returns-in-Err-clause-refused : goal.returns-in-Err-clause-refused
returns-in-Err-clause-refused g c =
    λ capture read. subst (IsTellRefusal c.args.wanted capture c.args.orders.now c.args.script.now) (sym c.from.ensures)
    (params_told c.args.wanted capture c.args.orders.now c.args.script.now c.in-Err.fault (subst (IsReadOf capture) c.in-Err.is read))
