use Rattle.fints_script_rows.specs.PartLaws.{each_step}
use Rattle.fints_script_templates.specs.Segments.{segment_in}
use Rattle.fints_script.proofs.step_reading.each_segment.Goals as goal

pub loop-row-preserved : goal.loop-row-preserved
loop-row-preserved c =
    each_step (λ v. v.items) (segment_in c.args.fields.now) c.args.rows.now c.loop-row.row-index
    c.row-item.result c.loop-row.segments c.more-segments.result c.segment_in.result c.loop-row-test.true
    c.row-item.is c.loop-row.invariant c.segment_in.ensures c.more-segments.ensures
