use Rattle.std.proofs.Common.{◌≡◌, ◌++◌}
use Rattle.std.specs.List.{flat_map, range_with_len}
use Rattle.fints_cli_drawings.specs.Picture.{edge_line}
use Rattle.fints_cli_drawings.proofs.edges.write_edges.Given as goal

-- the lines of the branches so far
abbrev pub invariant-loop-b : goal.invariant-loop-b
invariant-loop-b l =
    l.text.items ≡ l.initial.text.items ++ flat_map (edge_line l.plan.script.steps l.step) (range_with_len 1 l.b)
