use Rattle.fints_params.proofs.OneMeaning.{one_codes, one_code_fault, no_codes_at_fault}
use Rattle.fints_params.proofs.laws.one_codes.Goals as goal

pub returns-clause-codes : goal.returns-clause-codes
returns-clause-codes c = one_codes

pub returns-clause-refusal : goal.returns-clause-refusal
returns-clause-refusal c = one_code_fault

pub returns-clause-not_both : goal.returns-clause-not_both
returns-clause-not_both c = no_codes_at_fault
