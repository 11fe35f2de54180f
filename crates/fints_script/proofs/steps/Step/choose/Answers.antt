use Rattle.std.proofs.Common.{rules}
use Rattle.fints_script.proofs.steps.Step.choose.Goals as goal

pub returns : goal.returns
returns c = search rules
