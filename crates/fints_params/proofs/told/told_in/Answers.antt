use Rattle.std.proofs.Common.{◌<◌, ◌^◌, arith}
use Rattle.fints_params.specs.Parameters.{skipped_in}
use Rattle.fints_params.proofs.BothRead.{bank_told}
use Rattle.fints_params.proofs.Bounds.{can_count}
use Rattle.fints_params.proofs.told.told_in.Goals as goal

pub parts_of-bank-requires : goal.parts_of-bank-requires
parts_of-bank-requires c =
    let e = c.in_ok-rows.ensures.ok in
    let few : skipped_in e.0 < 2 ^ 32 = can_count c.args.capture.now e.0 e.1 in
    omega (arith, few, e.2.rows.skipped)

pub returns-clause-bank : goal.returns-clause-bank
returns-clause-bank c =
    let e = c.in_ok-rows.ensures.ok in
    rw c.ok.ensures.value
    (bank_told c.args.capture.now e.0 c.in_ok-rows.rows c.parts_of-bank.result.0 e.1 e.2 c.parts_of-bank.ensures.complete c.parts_of-bank.ensures.bank c.parts_of-bank.ensures.missing)
