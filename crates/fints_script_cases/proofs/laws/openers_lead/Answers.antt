use Rattle.fints_script_cases.proofs.LawLemmas.{openers_lead}
use Rattle.fints_script_cases.proofs.laws.openers_lead.Goals as goal

pub returns : goal.returns
returns c = openers_lead
