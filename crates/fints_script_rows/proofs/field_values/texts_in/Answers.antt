use Rattle.fints_script_rows.specs.Fields.{text_in}
use Rattle.fints_script_rows.specs.PartLaws.{each_step}
use Rattle.fints_script_rows.proofs.field_values.texts_in.Goals as goal

pub loop-value-preserved : goal.loop-value-preserved
loop-value-preserved c =
    each_step (λ v. v.items) text_in c.args.values.now c.loop-value.value-index c.value-item.result
    c.loop-value.texts c.more-texts.result c.text_in.result c.loop-value-test.true c.value-item.is
    c.loop-value.invariant c.text_in.ensures c.more-texts.ensures
