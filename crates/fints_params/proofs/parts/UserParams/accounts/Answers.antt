use Rattle.std.proofs.Common.{rules}
use Rattle.fints_params.proofs.parts.UserParams.accounts.Goals as goal

pub returns : goal.returns
returns c = search rules
