use Rattle.fints_script_cases.proofs.LawLemmas.{carrying_leads}
use Rattle.fints_script_cases.proofs.laws.carrying_leads.Goals as goal

pub returns : goal.returns
returns c = carrying_leads
