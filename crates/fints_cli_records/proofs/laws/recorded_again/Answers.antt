use Rattle.fints_cli_records.proofs.AgainLaws.{recorded_again}
use Rattle.fints_cli_records.proofs.laws.recorded_again.Goals as goal

pub returns : goal.returns
returns c = recorded_again
