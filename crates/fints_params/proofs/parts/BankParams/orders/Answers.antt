use Rattle.std.proofs.Common.{rules}
use Rattle.fints_params.proofs.parts.BankParams.orders.Goals as goal

pub returns : goal.returns
returns c = search rules
