use Rattle.fints_script_cases.proofs.LawLemmas.{carried_where}
use Rattle.fints_script_cases.proofs.laws.carried_where.Goals as goal

pub returns : goal.returns
returns c = carried_where
