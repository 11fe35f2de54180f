use Rattle.std.proofs.Common.{sym, arith}
use Rattle.fints_syntax.specs.PlaceLaws.{start_within}
use Rattle.fints_syntax.proofs.stream.data_place.Goals as goal

pub overflow_add-result : goal.overflow_add-result
overflow_add-result c = omega (arith, start_within c.args.segment.now c.in-Some.offset (sym c.in-Some.ensures.place))

pub returns-in-Some-clause-within : goal.returns-in-Some-clause-within
returns-in-Some-clause-within c = omega (arith, start_within c.args.segment.now c.in-Some.offset (sym c.in-Some.ensures.place))
