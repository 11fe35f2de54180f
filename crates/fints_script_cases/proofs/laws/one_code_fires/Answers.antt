use Rattle.fints_script_cases.proofs.LawLemmas.{one_code_fires}
use Rattle.fints_script_cases.proofs.laws.one_code_fires.Goals as goal

pub returns : goal.returns
returns c = one_code_fires
