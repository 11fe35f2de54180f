use Rattle.std.proofs.Common.{◌-◌, ◌<◌, length, sym, ap, arith, ◌∙◌}
use Rattle.fints_cli_texts.specs.Masked.{masked_items}
use Rattle.fints_cli_texts.proofs.MaskLemmas.{element_copied, length-masked_after, masked_after, masked_at_back, masked_at_front}
use Rattle.fints_cli_texts.proofs.masking.masked_from.Goals as goal
use Rattle.fints_cli_texts.proofs.masking.masked_from.Goals.{then-i-from+in_ok-copy_element, else-i-from+in_ok-mask_element}

pub copy_element-requires : goal.copy_element-requires
copy_element-requires c = c.items-items.ensures.some (omega (arith, c.loop-i-test.true, c.len-i-end.ensures.count))

pub mask_element-requires : goal.mask_element-requires
mask_element-requires c = c.items-items.ensures.some (omega (arith, c.loop-i-test.true, c.len-i-end.ensures.count))

pub loop-i-preserved : goal.loop-i-preserved
loop-i-preserved c =
    let es = c.args.segment.now.elements in
    let k = c.args.from - 2 in
    let i = c.loop-i.i in
    let within : i < length es = omega (arith, c.loop-i-test.true, c.len-i-end.ensures.count) in
    let lt : i < length (masked_after k es) = omega (arith, within, length-masked_after k es) in
    elim c.if-i-from.branch [
      | then-i-from+in_ok-copy_element w ↦
          element_copied (masked_after k es) c.loop-i.elements c.if-i-from.elements i c.items-items.result lt
          (masked_at_front k es i (omega (arith, w.if-i-from.true)) within ∙ sym c.items-items.ensures.items)
          c.loop-i.invariant (w.elements-is ∙ w.in_ok-copy_element.ensures)
      | else-i-from+in_ok-mask_element w ↦
          element_copied (masked_after k es) c.loop-i.elements c.if-i-from.elements i (masked_items c.items-items.result) lt
          (masked_at_back k es i (omega (arith, w.if-i-from.false)) within ∙ ap masked_items (sym c.items-items.ensures.items))
          c.loop-i.invariant (w.elements-is ∙ w.in_ok-mask_element.ensures)
    ]
