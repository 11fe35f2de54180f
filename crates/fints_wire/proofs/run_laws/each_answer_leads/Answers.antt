use Rattle.fints_wire.proofs.RunLawLemmas.{each_answer_leads_first, each_answer_leads_next}
use Rattle.fints_wire.proofs.run_laws.each_answer_leads.Goals as goal

pub returns-clause-first : goal.returns-clause-first
returns-clause-first c = each_answer_leads_first

pub returns-clause-next : goal.returns-clause-next
returns-clause-next c = each_answer_leads_next
