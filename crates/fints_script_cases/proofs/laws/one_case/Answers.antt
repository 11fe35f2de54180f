use Rattle.fints_script_cases.proofs.LawLemmas.{one_case}
use Rattle.fints_script_cases.proofs.laws.one_case.Goals as goal

pub returns : goal.returns
returns c = one_case
