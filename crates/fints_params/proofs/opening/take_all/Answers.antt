use Rattle.std.proofs.Common.{refl}
use Rattle.std.proofs.lemmas.Result.{err_from_is_err_and}
use Rattle.fints_syntax.specs.Owned.{segment_of, segments_of}
use Rattle.fints_params.proofs.Refusing.{stop_next, continue_next}
use Rattle.fints_params.proofs.Viewed.{segment_at}
use Rattle.fints_params.proofs.opening.take_all.Goals as goal

pub loop-view-preserved-then-branch : goal.loop-view-preserved-then-branch
loop-view-preserved-then-branch g c =
    let s = segment_of c.view-item.result in
    let i = c.loop-view.view-index in
    let at = segment_at c.args.views.now i c.view-item.result s c.loop-view-test.true c.view-item.is refl in
    let taken = rw c.if-branch.true at c.in_ok-glance.ensures in
    continue_next g.R.SegmentTaker.good c.args.taker.now c.loop-view.taker c.glance.new.self
    (segments_of c.args.views.now) i s at.0 at.1 c.loop-view.invariant taken.1

pub returns-in_err-take-clause-stopped : goal.returns-in_err-take-clause-stopped
returns-in_err-take-clause-stopped g c =
    let s = c.in_ok-segment.segment in
    let i = c.loop-view.view-index in
    let at = segment_at c.args.views.now i c.view-item.result s c.loop-view-test.true c.view-item.is c.in_ok-segment.ensures in
    let same = rw c.if-branch.false at c.in_ok-glance.ensures in
    let own = rw same at c.in_err-take.ensures.stopped in
    let f =
    stop_next g.R.SegmentTaker.rule g.R.SegmentTaker.good c.args.taker.now c.loop-view.taker
    (segments_of c.args.views.now) i s c.in_err-take.field-0.0 at.0 at.1 c.loop-view.invariant own in
    let p = err_from_is_err_and c.from_residual-in_err-take.result c.from_residual-in_err-take.ensures.1 in
    rw (p.1, p.2) f

pub loop-view-preserved : goal.loop-view-preserved
loop-view-preserved g c =
    let s = c.in_ok-segment.segment in
    let i = c.loop-view.view-index in
    let at = segment_at c.args.views.now i c.view-item.result s c.loop-view-test.true c.view-item.is c.in_ok-segment.ensures in
    let same = rw c.if-branch.false at c.in_ok-glance.ensures in
    let own = rw same at c.in_ok-take.ensures.ok in
    continue_next g.R.SegmentTaker.good c.args.taker.now c.loop-view.taker c.take.new.self
    (segments_of c.args.views.now) i s at.0 at.1 c.loop-view.invariant own
