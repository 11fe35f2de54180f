use Rattle.std.proofs.Common.{false}
use Rattle.fints_script_rows.specs.PartLaws.{each_step}
use Rattle.fints_script_templates.specs.Elements.{item_in}
use Rattle.fints_script_templates.proofs.elements.items_in.Goals as goal

pub loop-value-preserved : goal.loop-value-preserved
loop-value-preserved c =
    each_step (λ v. v.items) (item_in c.args.fields.now false) c.args.values.now c.loop-value.value-index
    c.value-item.result c.loop-value.items c.more-items.result c.item_in.result c.loop-value-test.true
    c.value-item.is c.loop-value.invariant c.item_in.ensures c.more-items.ensures
