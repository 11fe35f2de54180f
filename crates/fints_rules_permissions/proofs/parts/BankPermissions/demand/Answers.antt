use Rattle.std.proofs.Common.{rules}
use Rattle.fints_rules_permissions.proofs.parts.BankPermissions.demand.Goals as goal

pub returns-in-None : goal.returns-in-None
returns-in-None c = search rules
