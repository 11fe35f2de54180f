use Rattle.fints_params.proofs.Receiving.{any_cutting, param_fault_of}
use Rattle.fints_params.proofs.laws.any_cutting.Goals as goal

pub returns-clause-whole : goal.returns-clause-whole
returns-clause-whole c = any_cutting

pub returns-clause-fault : goal.returns-clause-fault
returns-clause-fault c = param_fault_of
