use Rattle.std.proofs.Common.{◌+◌, ◌++◌, ◌∙◌, List, ap, arith}
use Rattle.fints_script_templates.specs.declared.template.TemplateItem.{TemplateItem}
use Rattle.fints_cli_drafts_texts.proofs.EachLemmas.{each_written}
use Rattle.fints_cli_drafts_texts.specs.DraftText.{element_shown}
use Rattle.fints_cli_drafts_texts.proofs.shown.write_elements.Goals as goal

pub loop-i-preserved : goal.loop-i-preserved
loop-i-preserved c =
    each_written (λ n v. element_shown n v.items) 2 c.args.elements.now c.loop-i.i (c.loop-i.i + 2)
    c.index-elements-i.result c.args.text.now.items c.loop-i.text.items c.write_element.new.text.items
    c.loop-i-test.true c.index-elements-i.is (omega arith) c.loop-i.invariant
    (c.in_ok-write_element.ensures
    ∙ ap (λ (x : List TemplateItem). c.loop-i.text.items ++ element_shown (c.loop-i.i + 2) x)
    c.as_slice.ensures.value)
