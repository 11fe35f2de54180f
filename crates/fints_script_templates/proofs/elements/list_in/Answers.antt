use Rattle.std.proofs.Common.{List, subst, sym}
use Rattle.toml.specs.View.{view}
use Rattle.fints_script_rows.specs.PartLaws.{each_step, gives_seen, seen_same}
use Rattle.fints_script_rows.specs.Parts.{Gives, Part, more, seen}
use Rattle.fints_script_templates.specs.Elements.{element_in}
use Rattle.fints_script_templates.specs.declared.template.TemplateItem.{TemplateItem}
use Rattle.fints_script_templates.proofs.elements.list_in.Goals as goal

pub loop-value-preserved : goal.loop-value-preserved
loop-value-preserved c =
    let element = element_in c.args.fields.now c.args.free in
    let items = seen (λ v. v.items) c.element_in.result in
    each_step (λ e. e) element c.args.values.now c.loop-value.value-index c.value-item.result
    c.loop-value.elements c.more_elements-elements.result items c.loop-value-test.true c.value-item.is
    c.loop-value.invariant
    (gives_seen (λ v. v.items) c.element_in.result (element (view c.value-item.result)) c.element_in.ensures)
    (subst
    (λ (p : Part (List (List TemplateItem))).
    Gives (λ e. e) c.more_elements-elements.result (more p items))
    (sym (seen_same c.loop-value.elements)) c.more_elements-elements.ensures)
