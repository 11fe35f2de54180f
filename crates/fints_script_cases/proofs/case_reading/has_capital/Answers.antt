use Rattle.std.proofs.Common.{rules}
use Rattle.fints_script_cases.proofs.case_reading.has_capital.Goals as goal

pub returns : goal.returns
returns c = search rules
