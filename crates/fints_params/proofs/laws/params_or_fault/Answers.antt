use Rattle.fints_params.proofs.OneAnswer.{params_or_fault, codes_or_fault}
use Rattle.fints_params.proofs.laws.params_or_fault.Goals as goal

pub returns-clause-rows : goal.returns-clause-rows
returns-clause-rows c = params_or_fault

pub returns-clause-codes : goal.returns-clause-codes
returns-clause-codes c = codes_or_fault
