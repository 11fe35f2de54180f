use Rattle.std.proofs.Common.{◌≡◌, List, drop, refl, ap, ◌∙◌}
use Rattle.fints_syntax_segments.specs.Flat.{Filled}
use Rattle.fints_syntax_segments.specs.Segment.{values_of}
use Rattle.fints_syntax.specs.Reader.{read_segment}
use Rattle.fints_syntax.specs.Owned.{segment_of}
use Rattle.fints_syntax_segments.specs.declared.item.Head.{Head}
use Rattle.fints_syntax_segments.specs.declared.item.OwnedItem.{OwnedItem}
use Rattle.fints_syntax_segments.specs.declared.item.OwnedSegment.{OwnedSegment}
use Rattle.fints_syntax.proofs.Fills.{values_behind}
use Rattle.fints_syntax.proofs.view.SegmentView.to_owned_in.Goals as goal

abbrev make : Head → List (List OwnedItem) → OwnedSegment
make h es = record { head = h; elements = es }

pub returns : goal.returns
returns c =
    let s = c.self.inside in
    let es = read_segment s.source.now in
    let behind = values_behind es s.behind_head c.self.invariant.segment.framed c.self.invariant.behind_head in
    let own : c.from_filling-elements.result ≡ drop 1 (values_of es) =
    c.from_filling-elements.ensures ∙ ap (λ (f : Filled). f.elements) c.in_ok-fill.ensures ∙ behind in
    let is : make s.head c.from_filling-elements.result ≡ segment_of es = rw (own, c.self.invariant.head) refl in
    is ∙ ap segment_of c.self.view_is
