use Rattle.std.proofs.Common.{sym}
use Rattle.fints_syntax.specs.Owned.{segment_of}
use Rattle.fints_params.proofs.FoundCodes.{found_glanced}
use Rattle.fints_params.proofs.feedback.FoundCodesSegmentTaker.glance.Goals as goal

pub returns-then-not-is_feedback_view : goal.returns-then-not-is_feedback_view
returns-then-not-is_feedback_view c =
    found_glanced (segment_of c.args.segment.now) c.args.self.now c.is_sealed_view.result c.is_sealed_view.ensures
    (sym c.if-not-is_feedback_view.ensures)
