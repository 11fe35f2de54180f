use Rattle.std.proofs.Common.{◌≡◌, map, take, Ok}
use Rattle.toml.specs.View.{view}
use Rattle.fints_script_rows.specs.Rows.{rows_from}
use Rattle.fints_script_rows.specs.declared.fault.Place.TheVariants as places
use Rattle.fints_script.specs.Around.{surroundings_of}
use Rattle.fints_script.specs.Steps.{step_in}
use Rattle.fints_script.proofs.rows.read_steps.Given as goal

abbrev pub invariant-loop-i : goal.invariant-loop-i
invariant-loop-i l = rows_from (λ n. places.Step n) (step_in (surroundings_of l.around)) 0 (take l.i (map view l.rows)) ≡ Ok l.steps.items
