use Rattle.std.proofs.Common.{sym, subst}
use Rattle.fints_params.specs.Captures.{IsReadOf}
use Rattle.fints_cli_scripts.specs.Verified.{IsUnverified}
use Rattle.fints_cli_scripts.proofs.Refusals.{params_unverified}
use Rattle.fints_cli_scripts.proofs.verifying.verify_read.Goals as goal

pub returns-in-Err-clause-refused : goal.returns-in-Err-clause-refused
returns-in-Err-clause-refused g c =
    λ capture read. subst (IsUnverified capture c.args.orders.now c.args.script.now c.args.certificate.now) (sym c.from.ensures)
    (params_unverified capture c.args.orders.now c.args.script.now c.args.certificate.now c.in-Err.fault (subst (IsReadOf capture) c.in-Err.is read))
