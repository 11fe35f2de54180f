use Rattle.fints_script_cases.proofs.LawLemmas.{one_branch_fires}
use Rattle.fints_script_cases.proofs.laws.one_branch_fires.Goals as goal

pub returns : goal.returns
returns c = one_branch_fires
