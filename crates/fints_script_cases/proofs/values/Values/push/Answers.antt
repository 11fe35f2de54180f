use Rattle.std.proofs.Common.{rules}
use Rattle.fints_script_cases.proofs.values.Values.push.Goals as goal

pub returns-clause-ok : goal.returns-clause-ok
returns-clause-ok c = search rules
