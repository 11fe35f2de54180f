use Rattle.std.proofs.Common.{◌≡◌, ◌∙◌, ◌<◌, ap, subst, List, drop, length}
use Rattle.fints_syntax_segments.specs.Spelling.{Spelled}
use Rattle.fints_syntax_segments.specs.Segment.{segment_tokens}
use Rattle.fints_syntax.specs.Reader.{read_segment}
use Rattle.fints_syntax.specs.Cursor.{after_element, first_of}
use Rattle.fints_syntax.specs.ItemIs.{ItemIs}
use Rattle.fints_syntax.specs.Places.{place_of}
use Rattle.fints_syntax.proofs.Fills.{after_first, all_rest}
use Rattle.fints_syntax.proofs.FirstItems.{first_two, first_three}
use Rattle.fints_syntax.proofs.view.SegmentView.first_items.Goals as goal

pub returns-clause-second : goal.returns-clause-second
returns-clause-second c =
    let es = read_segment c.self.inside.source.now in
    let some = c.self.invariant.segment.framed.nonempty in
    let at : c.again-cursor.result ≡ segment_tokens (drop 1 es) =
    c.again-cursor.ensures ∙ c.self.invariant.behind_head ∙ after_first es some in
    let item = ap first_of at ∙ first_two es some ∙ ap (λ x. place_of x 2 1) c.self.view_is in
    subst (ItemIs c.first_item-second.result) item c.first_item-second.ensures.item

pub returns-clause-third : goal.returns-clause-third
returns-clause-third c =
    let es = read_segment c.self.inside.source.now in
    let some = c.self.invariant.segment.framed.nonempty in
    let at : c.again-cursor.result ≡ segment_tokens (drop 1 es) =
    c.again-cursor.ensures ∙ c.self.invariant.behind_head ∙ after_first es some in
    let next : c.first_item-second.new.cursor ≡ segment_tokens (drop 1 (drop 1 es)) =
    c.first_item-second.ensures.rest ∙ ap after_element at
    ∙ after_first (drop 1 es) (all_rest (λ (e : List Spelled). 0 < length e) es some) in
    let item = ap first_of next ∙ first_three es some ∙ ap (λ x. place_of x 3 1) c.self.view_is in
    subst (ItemIs c.first_item-third.result) item c.first_item-third.ensures.item
