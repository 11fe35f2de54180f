use Rattle.std.proofs.Common.{◌≡◌, ◌∙◌, ap, drop, get_or, []}
use Rattle.fints_syntax_segments.specs.Segment.{segment_tokens}
use Rattle.fints_syntax.specs.Cursor.{front}
use Rattle.fints_syntax.specs.Reader.{read_segment}
use Rattle.fints_syntax.proofs.Fills.{after_first}
use Rattle.fints_syntax.proofs.HeadTokens.{second_front}
use Rattle.fints_syntax.proofs.view.SegmentView.second_element.Goals as goal

pub returns : goal.returns
returns c =
    let es = read_segment c.self.inside.source.now in
    let some = c.self.invariant.segment.framed.nonempty in
    let at = c.self.invariant.behind_head ∙ after_first es some in
    c.at.ensures ∙ ap front at ∙ second_front es some ∙ ap (λ x. get_or x 1 []) c.self.view_is
