use Rattle.fints_params.proofs.OneMeaning.{one_params, one_param_fault, no_params_at_fault}
use Rattle.fints_params.proofs.laws.one_params.Goals as goal

pub returns-clause-rows : goal.returns-clause-rows
returns-clause-rows c = one_params

pub returns-clause-refusal : goal.returns-clause-refusal
returns-clause-refusal c = one_param_fault

pub returns-clause-not_both : goal.returns-clause-not_both
returns-clause-not_both c = no_params_at_fault
