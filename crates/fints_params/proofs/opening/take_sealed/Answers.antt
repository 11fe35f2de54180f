use Rattle.std.proofs.lemmas.Result.{err_from_is_err_and}
use Rattle.fints_syntax.specs.Owned.{segments_of}
use Rattle.fints_params.proofs.Refusing.{closed_stop, opened_ok, opened_stop}
use Rattle.fints_params.proofs.opening.take_sealed.Goals as goal

pub returns-in_err-views-clause-stopped : goal.returns-in_err-views-clause-stopped
returns-in_err-views-clause-stopped g c =
    let p = c.args.placed in
    let f =
    closed_stop g.R.SegmentTaker.rule g.R.SegmentTaker.good c.args.taker.now p.segment p.place
    c.in_err-views.field-0.0 c.requires c.in_err-views.ensures.closed in
    let q = err_from_is_err_and c.from_residual.result c.from_residual.ensures.1 in
    rw (q.1, q.2) f

pub returns-in_err-take_all-clause-stopped : goal.returns-in_err-take_all-clause-stopped
returns-in_err-take_all-clause-stopped g c =
    let p = c.args.placed in
    let mine = segments_of c.in_ok-views.views.items in
    let own = rw c.as_slice.ensures.value at c.in_err-take_all.ensures.stopped in
    let f =
    opened_stop g.R.SegmentTaker.rule g.R.SegmentTaker.good c.args.taker.now p.segment p.place mine
    c.in_err-take_all.field-0.0 c.requires c.in_ok-views.ensures.ok own in
    let q = err_from_is_err_and c.from_residual-in_err-take_all.result c.from_residual-in_err-take_all.ensures.1 in
    rw (q.1, q.2) f

pub returns-clause-ok : goal.returns-clause-ok
returns-clause-ok g c =
    let mine = segments_of c.in_ok-views.views.items in
    let own = rw c.as_slice.ensures.value at c.in_ok-take_all.ensures.ok in
    opened_ok g.R.SegmentTaker.good c.args.taker.now c.take_all.new.taker c.args.placed.segment mine c.requires c.in_ok-views.ensures.ok own
