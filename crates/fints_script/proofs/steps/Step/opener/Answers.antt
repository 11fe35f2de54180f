use Rattle.std.proofs.Common.{rules}
use Rattle.fints_script.proofs.steps.Step.opener.Goals as goal

pub returns-clause-open : goal.returns-clause-open
returns-clause-open c = search rules

pub returns-clause-least : goal.returns-clause-least
returns-clause-least c = search rules
