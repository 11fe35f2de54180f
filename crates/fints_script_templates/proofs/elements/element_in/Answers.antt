use Rattle.std.proofs.Common.{◌∙◌, List, ap, map, refl, subst}
use Rattle.toml.specs.View.{view}
use Rattle.fints_syntax_texts.specs.ItemLists.{of_array}
use Rattle.fints_script_rows.specs.Parts.{Gives, Part}
use Rattle.fints_script_templates.specs.Elements.{array_in, element_in}
use Rattle.fints_script_templates.specs.declared.template.TemplateItem.{TemplateItem}
use Rattle.fints_script_templates.proofs.elements.element_in.Goals as goal

pub returns-in-Array : goal.returns-in-Array
returns-in-Array c =
    subst (λ (part : Part (List TemplateItem)). Gives (λ v. v.items) c.array_in.result part)
    (ap (λ vs. array_in c.args.fields.now (map view vs)) c.as_slice.ensures.value
    ∙ of_array (element_in c.args.fields.now c.args.free) (array_in c.args.fields.now) (λ ds. refl)
    c.args.value.now c.in-Array.values c.in-Array.is)
    c.array_in.ensures
