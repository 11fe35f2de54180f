use Rattle.std.proofs.Common.{◌≡◌, length, arith, ap}
use Rattle.fints_syntax.specs.Cursor.{ends_left}
use Rattle.fints_syntax.proofs.Counts.{few_ends}
use Rattle.fints_syntax.proofs.cursor.Cursor.element_count.Goals as goal

pub overflow_add-count : goal.overflow_add-count
overflow_add-count c =
    omega (arith, c.loop-found.invariant, few_ends c.args.self.now, c.self.invariant.few, ap length c.self.view_is)

pub returns-clause-value : goal.returns-clause-value
returns-clause-value c =
    let none : ends_left c.loop-found.cursor ≡ 0 = ap ends_left c.in_default.ensures.end.0 in
    omega (arith, c.loop-found.invariant, none)

pub returns-clause-few : goal.returns-clause-few
returns-clause-few c =
    omega (arith, c.loop-found.invariant, few_ends c.args.self.now, c.self.invariant.few, ap length c.self.view_is)
