use Rattle.std.proofs.Common.{map}
use Rattle.toml.specs.View.{view}
use Rattle.fints_script_rows.specs.PartLaws.{each_step, exact_gives}
use Rattle.fints_script.specs.Steps.{branch_in}
use Rattle.fints_script.proofs.branches.each_branch.Goals as goal

pub loop-branch-preserved : goal.loop-branch-preserved
loop-branch-preserved c =
    let branch = branch_in (map view c.args.at.rows.now) c.args.at.row in
    each_step (λ v. v.items) branch c.args.branches.now c.loop-branch.branch-index c.branch-item.result
    c.loop-branch.read c.more-read.result c.branch_in.result c.loop-branch-test.true c.branch-item.is
    c.loop-branch.invariant
    (exact_gives c.branch_in.result (branch (view c.branch-item.result)) c.branch_in.ensures) c.more-read.ensures
