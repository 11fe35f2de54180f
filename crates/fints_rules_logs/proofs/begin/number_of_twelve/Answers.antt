use Rattle.std.proofs.Common.{◌<◌, arith}
use Rattle.fints_rules_messages.proofs.ItemValues.{few_digits}
use Rattle.fints_rules_logs.proofs.begin.number_of_twelve.Goals as goal

pub overflow_mul-number : goal.overflow_mul-number
overflow_mul-number c =
    let few : c.loop-digit.digit-index < 18 = omega (arith, c.requires, c.loop-digit-test.true) in
    omega (arith, few_digits c.loop-digit.number c.loop-digit.digit-index c.loop-digit.invariant.below few)

pub overflow_add-number : goal.overflow_add-number
overflow_add-number c =
    let few : c.loop-digit.digit-index < 18 = omega (arith, c.requires, c.loop-digit-test.true) in
    omega (arith, few_digits c.loop-digit.number c.loop-digit.digit-index c.loop-digit.invariant.below few)
