use Rattle.std.proofs.Common.{◌≡◌, ◌+◌, ◌∙◌, ◌∷◌, ◌++◌, [], ap, map, sym, take}
use Rattle.std.proofs.lemmas.List.{map-append, take_more}
use Rattle.fints_syntax.specs.Owned.{segment_of, segments_of}
use Rattle.fints_syntax_segments.specs.declared.item.Head.{Head}
use Rattle.fints_syntax_segments.specs.declared.item.OwnedSegment.{OwnedSegment}
use Rattle.fints_rules.specs.Facts.{count_of}
use Rattle.fints_rules.specs.Tallies.{counts_in}
use Rattle.fints_rules.proofs.ViewLemmas.{head_is}
use Rattle.fints_rules.proofs.tally.counts_of.Goals as goal

pub loop-segment-preserved : goal.loop-segment-preserved
loop-segment-preserved c holds =
    let views = c.args.body.now in
    let body = segments_of views in
    let i = c.loop-segment.segment-index in
    let view = c.segment-item.result in
    let s = segment_of view in
    let same_kind = λ (x : OwnedSegment). count_of x.head.id body in
    let kind = ap (λ (h : Head). h.id) (sym (head_is view c.head.result c.head.ensures.head)) in
    let count : c.count_in.result ≡ same_kind s =
    c.count_in.ensures ∙ holds c.head.result.id ∙ ap (λ k. count_of k body) kind in
    let before = counts_in body (segments_of (take i views)) in
    let more =
    take_more views i view c.loop-segment-test.true ∙ ap (λ t. take i views ++ t ∷ []) (sym c.segment-item.is) in
    let after : counts_in body (segments_of (take (i + 1) views)) ≡ before ++ same_kind s ∷ [] =
    ap (λ vs. counts_in body (segments_of vs)) more ∙ ap (map same_kind) (map-append segment_of (take i views) (view ∷ []))
    ∙ map-append same_kind (segments_of (take i views)) (s ∷ []) in
    c.in_ok-push.ensures.items ∙ ap (λ ns. ns ++ c.count_in.result ∷ []) (c.loop-segment.invariant holds)
    ∙ ap (λ n. before ++ n ∷ []) count ∙ sym after
