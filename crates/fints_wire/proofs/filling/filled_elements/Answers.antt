use Rattle.std.proofs.Common.{◌≡◌, [], get_or, length, map, ap, sym, ◌∙◌, arith}
use Rattle.std.proofs.lemmas.List.{length-map, get_or-map}
use Rattle.fints_wire.proofs.filling.filled_elements.Goals as goal

pub push-requires : goal.push-requires
push-requires c =
    let template = c.args.template.now in
    let filling = c.args.filling.now in
    let i = c.loop-items.items-index in
    let x = c.items-item.result in
    let lt = c.loop-items-test.true in
    let n : length (map (λ items. items.items) template) ≡ length template = length-map template (λ items. items.items) in
    let some = c.requires i [] (omega arith) in
    let e : c.as_slice.result.now ≡ get_or (map (λ items. items.items) template) i [] =
    c.as_slice.ensures.value ∙ ap (λ v. v.items) c.items-item.is ∙ sym (get_or-map (λ items. items.items) template i x [] lt) in
    rw (c.as_slice-in-loop-items.ensures.value, c.in_ok-element.ensures, e) some
