use Rattle.std.proofs.Common.{◌<◌, arith}
use Rattle.fints_rules_messages.proofs.ItemValues.{few_digits}
use Rattle.fints_rules_messages.proofs.values.number_of_item.Goals as goal

pub overflow_mul-number : goal.overflow_mul-number
overflow_mul-number c =
    let few : c.loop-byte.count < 18 = omega (arith, c.if-count-most.false) in
    omega (arith, few_digits c.loop-byte.number c.loop-byte.count c.loop-byte.invariant.below few)

pub overflow_add-number : goal.overflow_add-number
overflow_add-number c =
    let few : c.loop-byte.count < 18 = omega (arith, c.if-count-most.false) in
    omega (arith, few_digits c.loop-byte.number c.loop-byte.count c.loop-byte.invariant.below few)
