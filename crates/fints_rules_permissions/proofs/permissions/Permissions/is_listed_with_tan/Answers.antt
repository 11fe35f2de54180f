use Rattle.std.proofs.Common.{sym}
use Rattle.fints_rules_permissions.proofs.ListedLemmas.{listed_with_tan, not_listed, not_listed_with_tan}
use Rattle.fints_rules_permissions.proofs.permissions.Permissions.is_listed_with_tan.Goals as goal

pub returns-in-Unlisted : goal.returns-in-Unlisted
returns-in-Unlisted c = not_listed_with_tan c.args.self.now.rows.pins c.args.kind (not_listed c.args.self.now.rows.pins c.args.kind c.in-Unlisted.ensures)

pub returns-in-No : goal.returns-in-No
returns-in-No c = not_listed_with_tan c.args.self.now.rows.pins c.args.kind c.in-No.ensures.1

pub returns-in-Tan : goal.returns-in-Tan
returns-in-Tan c = sym ((listed_with_tan c.args.self.now.rows.pins c.args.kind).1 c.in-Tan.ensures)
