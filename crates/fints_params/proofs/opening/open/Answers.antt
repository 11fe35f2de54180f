use Rattle.std.proofs.Common.{◌≡◌, sym, arith, Some}
use Rattle.fints_params.specs.Sealed.{data_of}
use Rattle.fints_params.proofs.Offsets.{fault_within, len_is}
use Rattle.fints_params.proofs.Refusing.{closed_by}
use Rattle.fints_params.proofs.opening.open.Goals as goal

pub overflow_add-placed : goal.overflow_add-placed
overflow_add-placed c =
    let e : data_of c.args.placed.now.segment ≡ Some c.in-Some.bytes.now = sym c.in-Some.ensures in
    let n = len_is c.args.placed.now.segment c.in-Some.bytes.now e in
    let w = fault_within c.in-Err.fault.kind c.in-Err.fault.offset c.in-Some.bytes.now c.in-Err.ensures.fault in
    omega (arith, c.args.placed.now.in_range)

pub returns-in-Err-clause-closed : goal.returns-in-Err-clause-closed
returns-in-Err-clause-closed c =
    let e : data_of c.args.placed.now.segment ≡ Some c.in-Some.bytes.now = sym c.in-Some.ensures in
    rw c.from.ensures
    (closed_by c.args.placed.now.segment c.args.placed.now.place c.in-Some.bytes.now c.in-Err.fault.kind
    c.in-Err.fault.offset e c.in-Err.ensures.fault)
