use Rattle.std.proofs.Common.{◌≡◌, ◌+◌, ◌++◌, ◌<◌, get_or, drop, length, ap, subst, sym, ◌∙◌, arith}
use Rattle.fints_syntax_segments.specs.Written.{written_segment}
use Rattle.fints_script_templates.specs.declared.template.Template.{Template}
use Rattle.fints_wire.specs.Filling.{AreFilled, filled_segment, filled_segments}
use Rattle.fints_wire.specs.Messages.{inner_segments, segments_text, templates_of}
use Rattle.fints_wire.proofs.TextLemmas.{moves, segments_more}
use Rattle.fints_wire.proofs.building.inner_text.Goals as goal

pub write_part-requires : goal.write_part-requires
write_part-requires c =
    let ts = templates_of c.args.plan.now.script c.args.step.now in
    let t = c.part_at-part.result in
    let count = c.part_count-i-end.ensures.count c.args.plan.now.script in
    let test = c.loop-i-test.true in
    let lt : c.loop-i.i < length ts = omega arith in
    subst (λ (x : Template). AreFilled c.args.filling.now x.elements) (sym (c.part_at-part.ensures t)) (c.requires.filled c.loop-i.i t lt)

pub loop-i-preserved : goal.loop-i-preserved
loop-i-preserved c =
    let script = c.args.plan.now.script in
    let filling = c.args.filling.now in
    let ts = templates_of script c.args.step.now in
    let t = c.part_at-part.result in
    let i = c.loop-i.i in
    let count = c.part_count-i-end.ensures.count script in
    let test = c.loop-i-test.true in
    let lt : i < length ts = omega arith in
    let new : c.write_part.new.out.items ≡ c.loop-i.out.items ++ written_segment (filled_segment filling (i + 2) (get_or ts i t)) =
    c.in_ok-write_part.ensures ∙ ap (λ (x : Template). c.loop-i.out.items ++ written_segment (filled_segment filling (i + 2) x)) (c.part_at-part.ensures t) in
    moves c.loop-i.out.items c.write_part.new.out.items
    (segments_text (filled_segments filling (i + 2) (drop i ts)))
    (written_segment (filled_segment filling (i + 2) (get_or ts i t)))
    (segments_text (filled_segments filling (i + 1 + 2) (drop (i + 1) ts)))
    (segments_text (inner_segments script c.args.step.now filling)) (segments_more filling i ts t lt)
    c.loop-i.invariant new
