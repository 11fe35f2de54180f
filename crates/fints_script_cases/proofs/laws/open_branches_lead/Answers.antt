use Rattle.fints_script_cases.proofs.LawLemmas.{open_branches_lead}
use Rattle.fints_script_cases.proofs.laws.open_branches_lead.Goals as goal

pub returns : goal.returns
returns c = open_branches_lead
