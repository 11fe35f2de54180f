use Rattle.std.proofs.Common.{rules, ◌+◌, length, ap, arith}
use Rattle.fints_check_reach.proofs.Keeping.{flags_more, kept_more}
use Rattle.fints_check_reach.proofs.passing.look_at_branches.Goals as goal

pub look_at_branch-requires : goal.look_at_branch-requires
look_at_branch-requires c s carried =
    let within = c.requires.within s (c.loop-b.b + 1, carried) in
    let high = within.1 in
    (within.0, omega (arith, high, c.loop-b.invariant.kept.long))

pub loop-b-preserved : goal.loop-b-preserved
loop-b-preserved c =
    let step = c.args.step.now in
    let marks = c.args.asked.now.marks.now in
    record {
      long = search rules;
      counted = omega arith;
      each =
          λ k le.
          flags_more step c.loop-b.flags c.loop-b.b k c.look_at_branch.result
          (omega (arith, c.loop-b.invariant.long, ap length c.branches.ensures)) le
          c.look_at_branch.ensures.fired c.loop-b.invariant.each;
      kept =
          kept_more step marks c.args.n c.args.asked.now.code (c.loop-b.b + 1) c.args.behind.now.items
          c.loop-b.behind.items c.look_at_branch.new.behind.items (omega arith) c.loop-b.invariant.kept
          c.look_at_branch.ensures.kept;
    }
