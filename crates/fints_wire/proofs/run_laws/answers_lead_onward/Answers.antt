use Rattle.fints_wire.proofs.RunLawLemmas.{answers_lead_onward}
use Rattle.fints_wire.proofs.run_laws.answers_lead_onward.Goals as goal

pub returns : goal.returns
returns c = answers_lead_onward
