use Rattle.fints_params.specs.Feedback.{feedback_fault}
use Rattle.fints_params.proofs.Refusing.{none_nil}
use Rattle.fints_params.proofs.feedback.none_found.Goals as goal

pub returns : goal.returns
returns c = record { none = none_nil feedback_fault; numbers_are = c.new.ensures.items }
