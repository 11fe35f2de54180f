use Rattle.std.proofs.Common.{◌≡◌, ◌++◌, ◌+◌, [], ap, ◌∙◌, arith, length}
use Rattle.std.proofs.lemmas.List.{flat_map_more}
use Rattle.fints_syntax_segments.specs.Written.{written_segment}
use Rattle.fints_wire.specs.Messages.{between_segments, last_segment, segments_text, templates_of}
use Rattle.fints_wire.proofs.building.later_text.Goals as goal

pub returns : goal.returns
returns c =
    let script = c.args.plan.now.script in
    let step = c.args.step.now in
    let between = between_segments script step c.args.filling.now in
    let count = c.part_count.ensures.count script in
    let n : c.part_count.result + 2 ≡ 2 + length (templates_of script step) = omega (arith, count) in
    let last : c.in_ok-last.last ≡ last_segment (2 + length (templates_of script step)) c.args.number =
    c.in_ok-last.ensures ∙ ap (λ k. last_segment k c.args.number) n in
    c.in_ok-write_segment.ensures.written
    ∙ ap (λ text. text ++ written_segment c.in_ok-last.last) c.in_ok-out.ensures
    ∙ ap (λ s. segments_text between ++ written_segment s) last
    ∙ flat_map_more written_segment [] between (last_segment (2 + length (templates_of script step)) c.args.number)
