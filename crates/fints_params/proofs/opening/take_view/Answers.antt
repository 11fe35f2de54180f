use Rattle.std.proofs.Common.{◌≡◌, ℕ, false, sym, subst, ◌∙◌}
use Rattle.std.proofs.lemmas.Result.{IfOk-weaker, IfErr-weaker, err_from_is_err_and}
use Rattle.fints_params.specs.Faults.{IsMemoryOr}
use Rattle.fints_params.specs.Steps.{ContinuesOver, StopsAt}
use Rattle.fints_params.specs.Sealed.{is_sealed}
use Rattle.fints_params.specs.declared.fault.ParamFault.{ParamFault}
use Rattle.fints_syntax.specs.Owned.{segment_of}
use Rattle.fints_syntax.specs.Streams.{data_place}
use Rattle.fints_syntax.specs.declared.capture.Placed.{Placed}
use Rattle.fints_syntax_segments.specs.declared.item.OwnedSegment.{OwnedSegment}
use Rattle.fints_params.proofs.Bounds.{placed_fits}
use Rattle.fints_params.proofs.Refusing.{single_ok, single_stop}
use Rattle.fints_params.proofs.opening.take_view.Goals as goal

pub returns-then-not-is_sealed-clause-ok : goal.returns-then-not-is_sealed-clause-ok
returns-then-not-is_sealed-clause-ok g c =
    let s = c.in_ok-segment.segment in
    let e : is_sealed s ≡ false = sym c.is_sealed.ensures ∙ c.if-not-is_sealed.true in
    subst (ContinuesOver g.R.SegmentTaker.good c.args.taker.now c.take.new.self) c.in_ok-segment.ensures
    (single_ok g.R.SegmentTaker.good c.args.taker.now c.take.new.self s e c.in_ok-take.ensures.ok)

pub returns-in_err-take-clause-stopped : goal.returns-in_err-take-clause-stopped
returns-in_err-take-clause-stopped g c =
    let view : Placed = record { start = c.args.start; segment = c.args.view.now } in
    let s = c.in_ok-segment.segment in
    let f = c.in_err-take.field-0.0 in
    let e : is_sealed s ≡ false = sym c.is_sealed.ensures ∙ c.if-not-is_sealed.true in
    let m = single_stop g.R.SegmentTaker.rule g.R.SegmentTaker.good c.args.taker.now s (data_place view) f e c.in_err-take.ensures.stopped in
    let here =
    subst
    (λ (x : OwnedSegment).
    IsMemoryOr
    (StopsAt g.R.SegmentTaker.rule g.R.SegmentTaker.good c.args.taker.now x (data_place view))
    f)
    c.in_ok-segment.ensures m in
    let q = err_from_is_err_and c.from_residual-in_err-take.result c.from_residual-in_err-take.ensures.1 in
    rw (q.1, q.2) here

pub invariant_of-take_sealed : goal.invariant_of-take_sealed
invariant_of-take_sealed g c =
    let view : Placed = record { start = c.args.start; segment = c.args.view.now } in
    record { in_range = placed_fits view c.in_ok-segment.segment c.data_place-place.result c.requires c.in_ok-segment.ensures c.data_place-place.ensures.place }

pub returns-clause-ok : goal.returns-clause-ok
returns-clause-ok g c =
    let s = c.in_ok-segment.segment in
    let P : OwnedSegment → Type 0 = ContinuesOver g.R.SegmentTaker.good c.args.taker.now c.take_sealed.new.taker in
    IfOk-weaker c.take_sealed.result (λ _. P s) (λ _. P (segment_of c.args.view.now)) (λ _ h. subst P c.in_ok-segment.ensures h) c.take_sealed.ensures.ok

pub returns-clause-stopped : goal.returns-clause-stopped
returns-clause-stopped g c =
    let view : Placed = record { start = c.args.start; segment = c.args.view.now } in
    let s = c.in_ok-segment.segment in
    let place = c.data_place-place.result in
    let P : OwnedSegment → ℕ → ParamFault → Type 0 = λ x n f. IsMemoryOr (StopsAt g.R.SegmentTaker.rule g.R.SegmentTaker.good c.args.taker.now x n) f in
    IfErr-weaker c.take_sealed.result (P s place) (P (segment_of c.args.view.now) (data_place view))
    (λ f h.
    subst (λ x. P x (data_place view) f) c.in_ok-segment.ensures
    (subst (λ n. P s n f) c.data_place-place.ensures.place h))
    c.take_sealed.ensures.stopped
