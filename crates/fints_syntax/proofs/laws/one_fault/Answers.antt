use Rattle.fints_syntax.proofs.LawLemmas.{one_fault_segment, one_fault_no_segment, one_fault_capture, one_fault_no_capture}
use Rattle.fints_syntax.proofs.laws.one_fault.Goals as goal

pub returns-clause-segment : goal.returns-clause-segment
returns-clause-segment c = one_fault_segment

pub returns-clause-no_segment : goal.returns-clause-no_segment
returns-clause-no_segment c = one_fault_no_segment

pub returns-clause-capture : goal.returns-clause-capture
returns-clause-capture c = one_fault_capture

pub returns-clause-no_capture : goal.returns-clause-no_capture
returns-clause-no_capture c = one_fault_no_capture
