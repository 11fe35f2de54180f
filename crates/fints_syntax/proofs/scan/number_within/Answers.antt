use Rattle.std.proofs.Common.{◌<◌, arith}
use Rattle.fints_syntax.proofs.Digits.{nine_digits}
use Rattle.fints_syntax.proofs.scan.number_within.Goals as goal

pub overflow_mul-number : goal.overflow_mul-number
overflow_mul-number c =
    let few : c.loop-byte.byte-index < 9 = omega arith in
    omega (arith, nine_digits c.loop-byte.number c.loop-byte.byte-index c.loop-byte.invariant.below few)

pub overflow_add-number : goal.overflow_add-number
overflow_add-number c =
    let few : c.loop-byte.byte-index < 9 = omega arith in
    omega (arith, nine_digits c.loop-byte.number c.loop-byte.byte-index c.loop-byte.invariant.below few)
