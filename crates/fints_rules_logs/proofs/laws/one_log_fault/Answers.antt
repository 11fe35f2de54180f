use Rattle.fints_rules_logs.proofs.LogLaws.{no_log_at_fault, one_log_fault}
use Rattle.fints_rules_logs.proofs.laws.one_log_fault.Goals as goal

pub returns-clause-fault : goal.returns-clause-fault
returns-clause-fault c = one_log_fault

pub returns-clause-not_both : goal.returns-clause-not_both
returns-clause-not_both c = no_log_at_fault
