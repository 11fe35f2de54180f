use Rattle.std.proofs.Common.{rules}
use Rattle.fints_params.proofs.parts.UserParams.usage.Goals as goal

pub returns : goal.returns
returns c = search rules
