use Rattle.std.proofs.Common.{◌∷◌, [], drop, sym, subst, arith, length-append}
use Rattle.fints_syntax.specs.Owned.{segment_of}
use Rattle.fints_rules_messages.specs.Front.{IsNextSegment}
use Rattle.fints_rules_messages.proofs.Fronts.{front_opener, front_body, front_ender, front_within, after_opener, after_body, after_ender}
use Rattle.fints_rules_messages.proofs.inner.read_inner.Goals as goal

pub loop-view-preserved-in-Continue-1 : goal.loop-view-preserved-in-Continue-1
loop-view-preserved-in-Continue-1 c =
    let openers = c.loop-view.inner.1.0.items in
    let next : IsNextSegment (drop c.loop-view.inner.0 c.args.bytes.now) c.in-Some.view c.in-Some.len =
    subst (λ z. IsNextSegment z c.in-Some.view c.in-Some.len) c.split_at.ensures.back
    c.in-Some.ensures.next in
    let stand = c.in-Some.ensures.stands in
    let few = c.in-Some.ensures.few in
    let past = after_opener (segment_of c.in-Some.view) _ _ _ stand c.in-Opener.ensures in
    let front = front_opener _ _ _ _ _ _ _ c.loop-view.invariant.front next stand.0 (sym c.in-Opener.ensures) past.0 past.1 in
    let long = length-append openers (c.in-Some.view ∷ []) in
    rw c.in_ok-push-in-Opener.ensures.items (record {
      within = front_within _ _ _ _ _ front;
      few = omega (arith, few, stand.0, long);
      front = front;
      seal = c.loop-view.invariant.seal;
    })

pub loop-view-preserved-in-Continue-branch-2 : goal.loop-view-preserved-in-Continue-branch-2
loop-view-preserved-in-Continue-branch-2 c =
    let next : IsNextSegment (drop c.loop-view.inner.0 c.args.bytes.now) c.in-Some.view c.in-Some.len =
    subst (λ z. IsNextSegment z c.in-Some.view c.in-Some.len) c.split_at.ensures.back
    c.in-Some.ensures.next in
    let stand = c.in-Some.ensures.stands in
    let few = c.in-Some.ensures.few in
    let past = after_ender (segment_of c.in-Some.view) _ _ _ stand c.in-Ender.ensures in
    let front = front_ender _ _ _ _ _ _ _ c.loop-view.invariant.front next stand.0 (sym c.in-Ender.ensures) past in
    rw c.in_ok-push-in-Ender.ensures.items (record {
      within = front_within _ _ _ _ _ front;
      few = omega (arith, few, stand.0, length-append c.loop-view.inner.1.1.1.0.items (c.in-Some.view ∷ []));
      front = front;
      seal = c.loop-view.invariant.seal;
    })

pub loop-view-preserved : goal.loop-view-preserved
loop-view-preserved c =
    let next : IsNextSegment (drop c.loop-view.inner.0 c.args.bytes.now) c.in-Some.view c.in-Some.len =
    subst (λ z. IsNextSegment z c.in-Some.view c.in-Some.len) c.split_at.ensures.back
    c.in-Some.ensures.next in
    let stand = c.in-Some.ensures.stands in
    let few = c.in-Some.ensures.few in
    let (part, past) =
    after_body (segment_of c.in-Some.view) _ _ _ c.part_of.result stand c.part_of.ensures
    c.in_default-part_of.not-Opener c.in_default-part_of.not-Ender in
    let front = front_body _ _ _ _ _ _ _ c.loop-view.invariant.front next stand.0 part past in
    rw c.in_ok-push-in_default-part_of.ensures.items (record {
      within = front_within _ _ _ _ _ front;
      few = omega (arith, few, stand.0, length-append c.loop-view.inner.1.1.0.items (c.in-Some.view ∷ []));
      front = front;
      seal = c.loop-view.invariant.seal;
    })
