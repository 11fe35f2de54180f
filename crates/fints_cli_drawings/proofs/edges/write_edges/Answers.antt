use Rattle.fints_cli_drawings.specs.Picture.{edge_line}
use Rattle.fints_cli_drawings.proofs.EdgeLemmas.{one_more}
use Rattle.fints_cli_drawings.proofs.edges.write_edges.Goals as goal

pub loop-b-preserved : goal.loop-b-preserved
loop-b-preserved c =
    one_more (edge_line c.args.plan.now.script.steps c.args.step.now) c.loop-b.b c.args.text.now.items
    c.loop-b.text.items c.write_edge.new.text.items c.loop-b.invariant c.in_ok-write_edge.ensures
