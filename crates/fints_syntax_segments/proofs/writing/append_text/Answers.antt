use Rattle.fints_syntax_segments.proofs.Flats.{on_err}
use Rattle.fints_syntax_segments.proofs.Fronts.{kept_more, kept_after}
use Rattle.fints_syntax_segments.proofs.writing.append_text.Goals as goal

pub returns-in_err-append_unit-clause-kept : goal.returns-in_err-append_unit-clause-kept
returns-in_err-append_unit-clause-kept c =
    let before = kept_more c.args.out.now.items c.loop-b.out.items _ c.loop-b.invariant in
    on_err c.from_residual.result (kept_after c.args.out.now.items c.loop-b.out.items c.append_unit.new.out.items before c.in_err-append_unit.ensures.kept)
