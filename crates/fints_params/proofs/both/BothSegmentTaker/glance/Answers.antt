use Rattle.std.proofs.Common.{sym}
use Rattle.std.proofs.lemmas.Result.{IfOk-weaker}
use Rattle.fints_syntax.specs.Owned.{segment_of}
use Rattle.fints_params.specs.Glancing.{IsGlanced}
use Rattle.fints_params.specs.Taken.{IsBothSoFar, ParamsSoFar}
use Rattle.fints_params.proofs.BothRead.{both_glanced}
use Rattle.fints_params.proofs.both.BothSegmentTaker.glance.Goals as goal

pub returns : goal.returns
returns c =
    let s = segment_of c.args.segment.now in
    let old = c.args.self.now in
    let new = record old { rows = c.glance.new.self } in
    IfOk-weaker c.glance.result (IsGlanced ParamsSoFar old.rows new.rows s) (IsGlanced IsBothSoFar old new s)
    (λ taken h. both_glanced s old c.glance.new.self taken (sym c.if-is_feedback_view.ensures) h) c.glance.ensures
