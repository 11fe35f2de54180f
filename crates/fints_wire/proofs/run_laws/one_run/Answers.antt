use Rattle.fints_wire.proofs.RunLawLemmas.{one_run_visits, one_run_sent}
use Rattle.fints_wire.proofs.run_laws.one_run.Goals as goal

pub returns-clause-visits : goal.returns-clause-visits
returns-clause-visits c = one_run_visits

pub returns-clause-sent : goal.returns-clause-sent
returns-clause-sent c = one_run_sent
