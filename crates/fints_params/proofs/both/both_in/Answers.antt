use Rattle.std.proofs.Common.{◌<◌, ◌^◌, arith, inl, inr}
use Rattle.std.proofs.lemmas.Result.{err_from_is_err_and}
use Rattle.fints_params.specs.Captures.{IsEitherFault}
use Rattle.fints_params.specs.Faults.{IsMemoryOr}
use Rattle.fints_params.specs.Parameters.{skipped_in}
use Rattle.fints_params.proofs.Bounds.{can_count}
use Rattle.fints_params.proofs.BothRead.{code_fault, codes_are, codes_ended, params_of, missing}
use Rattle.fints_params.proofs.both.both_in.Goals as goal

pub params_of-requires : goal.params_of-requires
params_of-requires c =
    let e = c.in_ok-rows.ensures.ok in
    let few : skipped_in e.0 < 2 ^ 32 = can_count c.args.capture.now e.0 e.1 in
    omega (arith, few, e.2.0.rows.skipped)

pub returns-in_err-params-clause-refused : goal.returns-in_err-params-clause-refused
returns-in_err-params-clause-refused c =
    let e = c.in_ok-rows.ensures.ok in
    let f = missing c.args.capture.now e.0 c.in_ok-rows.field-0.rows c.in_err-params.field-0.0 e.1 e.2.0 (c.in_err-params.ensures.missing e.0 e.2.0.rows) in
    let p = err_from_is_err_and c.from_residual-in_err-params.result c.from_residual-in_err-params.ensures.1 in
    rw (p.1, p.2) (inr (inl f))

pub returns-in-Some-clause-refused : goal.returns-in-Some-clause-refused
returns-in-Some-clause-refused c =
    let e = c.in_ok-rows.ensures.ok in
    let rows =
    params_of c.args.capture.now e.0 c.in_ok-rows.field-0.rows c.in_ok-params.params e.1 e.2.0
    (c.in_ok-params.ensures.complete e.0 e.2.0.rows) (c.in_ok-params.ensures.rows e.0 e.2.0.rows) in
    let fault = code_fault c.args.capture.now e.0 c.in_ok-rows.field-0.refused c.in_ok-rows.field-0.found.codes.items c.in-Some.fault c.in-Some.is e.1 e.2.1 in
    inr (inr (c.in_ok-params.params, rows, fault))

pub returns-in_err-rows-clause-refused : goal.returns-in_err-rows-clause-refused
returns-in_err-rows-clause-refused c =
    let f = c.in_err-rows.field-0.0 in
    let told : IsMemoryOr (IsEitherFault c.args.capture.now) f = elim c.in_err-rows.ensures.refused [
      | inl m ↦ inl m
      | inr r ↦ inr (inl (inl r))
    ] in
    let p = err_from_is_err_and c.from_residual.result c.from_residual.ensures.1 in
    rw (p.1, p.2) told

pub returns-clause-params : goal.returns-clause-params
returns-clause-params c =
    let e = c.in_ok-rows.ensures.ok in
    params_of c.args.capture.now e.0 c.in_ok-rows.field-0.rows c.in_ok-params.params e.1 e.2.0
    (c.in_ok-params.ensures.complete e.0 e.2.0.rows) (c.in_ok-params.ensures.rows e.0 e.2.0.rows)

pub returns-clause-codes : goal.returns-clause-codes
returns-clause-codes c =
    let e = c.in_ok-rows.ensures.ok in
    let numbers = c.in_ok-rows.field-0.found.codes.items in
    codes_are c.args.capture.now e.0 numbers e.1 (codes_ended e.0 c.in_ok-rows.field-0.refused numbers c.in_default.not-Some e.2.1)
