use Rattle.std.proofs.Common.{◌-◌, ◌<◌, [], length, set, sym, arith, ◌∙◌}
use Rattle.std.proofs.lemmas.Grind.{get_or-set_at}
use Rattle.std.proofs.lemmas.List.{get_or-set_other, length-set}
use Rattle.fints_cli_texts.proofs.MaskLemmas.{element_copied}
use Rattle.fints_cli_texts.proofs.masking.with_items.Goals as goal
use Rattle.fints_cli_texts.proofs.masking.with_items.Goals.{then-i-element+in_ok-push, else-i-element+in_ok-copy_element}

pub push-requires : goal.push-requires
push-requires c = c.requires.some (omega (arith, c.loop-i-test.true, c.len-i-end.ensures.count, c.if-i-element.true))

pub copy_element-requires : goal.copy_element-requires
copy_element-requires c = c.items.ensures.some (omega (arith, c.loop-i-test.true, c.len-i-end.ensures.count))

pub loop-i-preserved : goal.loop-i-preserved
loop-i-preserved c =
    let es = c.args.segment.now.elements in
    let k = c.args.element - 2 in
    let items = c.args.items.now in
    let i = c.loop-i.i in
    let lt : i < length (set es k items) = omega (arith, c.loop-i-test.true, c.len-i-end.ensures.count, length-set es k items) in
    elim c.if-i-element.branch [
      | then-i-element+in_ok-push w ↦
          element_copied (set es k items) c.loop-i.elements c.if-i-element.elements i items lt
          (get_or-set_at es k i items [] w.if-i-element.true (omega (arith, w.if-i-element.true)))
          c.loop-i.invariant (w.elements-is ∙ w.in_ok-push.ensures.added)
      | else-i-element+in_ok-copy_element w ↦
          element_copied (set es k items) c.loop-i.elements c.if-i-element.elements i w.items.result lt
          (get_or-set_other es k i items [] w.if-i-element.false ∙ sym w.items.ensures.items)
          c.loop-i.invariant (w.elements-is ∙ w.in_ok-copy_element.ensures)
    ]
