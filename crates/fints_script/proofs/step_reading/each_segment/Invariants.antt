use Rattle.std.proofs.Common.{map, take}
use Rattle.toml.specs.View.{view}
use Rattle.fints_script_rows.specs.Parts.{Gives, each}
use Rattle.fints_script_templates.specs.Segments.{segment_in}
use Rattle.fints_script.proofs.step_reading.each_segment.Given as goal

abbrev pub invariant-loop-row : goal.invariant-loop-row
invariant-loop-row l = Gives (λ v. v.items) l.segments (each (segment_in l.fields) (map view (take l.row-index l.rows)))
