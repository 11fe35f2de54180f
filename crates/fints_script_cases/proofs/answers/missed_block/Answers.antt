use Rattle.std.proofs.Common.{◌-◌, arith, get_or}
use Rattle.std.proofs.lemmas.Option.{slice_get-get_or}
use Rattle.fints_script_cases.proofs.Blocks.{missed_cases, no_own}
use Rattle.fints_script_cases.proofs.answers.missed_block.Goals as goal

pub returns-then-at : goal.returns-then-at
returns-then-at c = no_own c.args.at.branches.now c.args.at.branch c.args.code c.args.at.from c.if-at.true

pub returns : goal.returns
returns c =
    let branches = c.args.at.branches.now in
    let own = get_or branches (c.args.at.branch - 1) c.index-at-at.result in
    missed_cases branches c.args.at.branch c.args.code own c.missed.result
    (slice_get-get_or branches (c.args.at.branch - 1) c.index-at-at.result
    (omega (arith, c.args.at.from, c.if-at.false)))
    c.missed.ensures
