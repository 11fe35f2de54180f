use Rattle.fints_script.proofs.LawLemmas.{one_script_one, one_script_none_at_fault, one_script_one_fault}
use Rattle.fints_script.proofs.laws.one_script.Goals as goal

pub returns-clause-one : goal.returns-clause-one
returns-clause-one c = one_script_one

pub returns-clause-none_at_fault : goal.returns-clause-none_at_fault
returns-clause-none_at_fault c = one_script_none_at_fault

pub returns-clause-one_fault : goal.returns-clause-one_fault
returns-clause-one_fault c = one_script_one_fault
