use Rattle.std.proofs.Common.{rules}
use Rattle.fints_rules_permissions.proofs.account.AccountKey.of.Goals as goal

pub returns : goal.returns
returns c = search rules
