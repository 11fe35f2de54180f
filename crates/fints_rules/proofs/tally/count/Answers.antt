use Rattle.std.proofs.Common.{arith, ◌≡◌, ◌+◌, ◌<◌, ◌∙◌, ap, length, refl, take, sym}
use Rattle.std.specs.BTreeMap.{get}
use Rattle.std.specs.Cmp.Lexicographic.{slice_cmp}
use Rattle.std.specs.Ordering.{nat_cmp}
use Rattle.fints_rules.specs.Facts.{count_of}
use Rattle.fints_rules.specs.Tallies.{HoldsCounts}
use Rattle.std.proofs.lemmas.List.{length-map}
use Rattle.fints_syntax.specs.Owned.{segment_of, segments_of}
use Rattle.fints_syntax_segments.specs.declared.item.Head.{Head}
use Rattle.fints_rules.proofs.ViewLemmas.{head_is, segment_at}
use Rattle.fints_rules.proofs.RuleLemmas.{kinds_more, counts_more}
use Rattle.fints_rules.proofs.tally.count.Goals as goal
use Rattle.fints_rules.proofs.tally.count.Goals.{then-is_new, else-is_new}

pub loop-segment-preserved : goal.loop-segment-preserved
loop-segment-preserved c =
    let views = c.args.body.now in
    let body = segments_of views in
    let i = c.loop-segment.segment-index in
    let s = segment_of c.segment-item.result in
    let kind : c.head-kind.result.id ≡ s.head.id =
    ap (λ (h : Head). h.id) (sym (head_is c.segment-item.result c.head-kind.result c.head-kind.ensures.head)) in
    let less : i < length body = omega (arith, length-map views segment_of, c.loop-segment-test.true) in
    let at = segment_at views i c.segment-item.result c.loop-segment-test.true c.segment-item.is in
    let before = c.count_in-before.result in
    let is : before ≡ count_of s.head.id (take i body) =
    c.count_in-before.ensures ∙ c.loop-segment.invariant.counts c.head-kind.result.id
    ∙ ap (λ k. count_of k (take i body)) kind in
    let counts : HoldsCounts (take (i + 1) body) (get (slice_cmp nat_cmp) c.insert.new.self) =
    λ k.
    counts_more k body i s before (before + 1) _ _ less at is
    (c.loop-segment.invariant.counts k) refl (rw kind at (c.in_ok-insert.ensures.updates.0 k)) in
    let raw = kinds_more body i s before less at is in
    let new = rw kind at c.is_new.ensures in
    let more = rw (sym new) at raw in
    let old = c.loop-segment.invariant.kinds in
    let few = c.loop-segment.invariant.few in
    elim c.if-is_new.branch [
      | then-is_new w ↦
          let n = rw w.if-is_new.true at more in
          record {
            counts = counts;
            kinds = omega (arith, n, old, w.kinds-is);
            few = omega (arith, w.kinds-is);
          }
      | else-is_new w ↦ let n = rw w.if-is_new.false at more in record { counts = counts; kinds = w.kinds-is ∙ old ∙ sym n; few = omega (arith, w.kinds-is) }
    ]
