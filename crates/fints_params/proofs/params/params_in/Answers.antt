use Rattle.std.proofs.Common.{◌<◌, ◌^◌, arith}
use Rattle.std.proofs.lemmas.Result.{err_from_is_err_and}
use Rattle.fints_params.specs.Captures.{IsParamFault}
use Rattle.fints_params.specs.Parameters.{fault_after, skipped_in}
use Rattle.fints_params.specs.Refused.{IsRefusedOf}
use Rattle.fints_params.proofs.Bounds.{can_count}
use Rattle.fints_params.proofs.BothRead.{params_read}
use Rattle.fints_params.proofs.Refusing.{memory_or}
use Rattle.fints_params.proofs.Viewed.{param_fault}
use Rattle.fints_params.proofs.params.params_in.Goals as goal

pub returns-in_err-rows-clause-refused : goal.returns-in_err-rows-clause-refused
returns-in_err-rows-clause-refused c =
    let capture = c.args.capture.now in
    let f = memory_or (IsRefusedOf fault_after capture) (IsParamFault capture) c.in_err-rows.field-0.0 (param_fault capture) c.in_err-rows.ensures.refused in
    let p = err_from_is_err_and c.from_residual.result c.from_residual.ensures.1 in
    rw (p.1, p.2) f

pub params_of-requires : goal.params_of-requires
params_of-requires c =
    let e = c.in_ok-rows.ensures.ok in
    let few : skipped_in e.0 < 2 ^ 32 = can_count c.args.capture.now e.0 e.1 in
    omega (arith, few, e.2.0.rows.skipped)

pub returns-clause-rows : goal.returns-clause-rows
returns-clause-rows c =
    let e = c.in_ok-rows.ensures.ok in
    params_read c.args.capture.now e.0 c.in_ok-rows.field-0.rows c.params_of.result e.1 e.2.0 c.params_of.ensures.complete c.params_of.ensures.rows
