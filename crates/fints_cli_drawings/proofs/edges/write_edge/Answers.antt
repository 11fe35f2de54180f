use Rattle.std.proofs.Common.{length, sym, subst}
use Rattle.fints_script.specs.Sound.{IsOnward}
use Rattle.fints_cli_drawings.proofs.EdgeLemmas.{branch_onward}
use Rattle.fints_cli_drawings.proofs.edges.write_edge.Goals as goal

pub write_edge_to-requires : goal.write_edge_to-requires
write_edge_to-requires c =
    subst (IsOnward (length c.args.plan.now.script.steps) 0) (sym c.target.ensures)
    (branch_onward (length c.args.plan.now.script.steps) c.args.branch c.args.step.now c.requires.onward)
