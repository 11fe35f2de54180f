use Rattle.fints_syntax.proofs.OneAnswer.{segment_or_fault, capture_or_fault}
use Rattle.fints_syntax.proofs.laws.capture_or_fault.Goals as goal

pub returns-clause-segment : goal.returns-clause-segment
returns-clause-segment c = segment_or_fault

pub returns-clause-capture : goal.returns-clause-capture
returns-clause-capture c = capture_or_fault
