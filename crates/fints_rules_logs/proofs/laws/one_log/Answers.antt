use Rattle.fints_rules_logs.proofs.LogLaws.{one_log}
use Rattle.fints_rules_logs.proofs.laws.one_log.Goals as goal

pub returns : goal.returns
returns c = one_log
