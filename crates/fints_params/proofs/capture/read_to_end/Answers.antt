use Rattle.std.proofs.Common.{inl, inr}
use Rattle.std.proofs.lemmas.Result.{IfErr-weaker, err_from_is_err_and}
use Rattle.fints_params.specs.Faults.{IsMemoryOr}
use Rattle.fints_params.specs.Refused.{IsRefusedOf}
use Rattle.fints_params.proofs.GoingOn.{syntax_fault}
use Rattle.fints_params.proofs.capture.read_to_end.Goals as goal

pub returns-clause-refused : goal.returns-clause-refused
returns-clause-refused g c =
    IfErr-weaker c.end.result (IsRefusedOf g.R.SegmentTaker.rule c.args.capture.now)
    (IsMemoryOr (IsRefusedOf g.R.SegmentTaker.rule c.args.capture.now)) (λ f h. inr h)
    c.end.ensures.refused

pub returns-in_err-progress-clause-refused : goal.returns-in_err-progress-clause-refused
returns-in_err-progress-clause-refused g c =
    let f = c.in_err-progress.field-0.0 in
    let told : IsMemoryOr (IsRefusedOf g.R.SegmentTaker.rule c.args.capture.now) f = elim c.in_err-progress.ensures.fault [
      | inl m ↦ inl m
      | inr p ↦ inr (inl (syntax_fault c.args.capture.now f p))
    ] in
    let q = err_from_is_err_and c.from_residual.result c.from_residual.ensures.1 in
    rw (q.1, q.2) told
