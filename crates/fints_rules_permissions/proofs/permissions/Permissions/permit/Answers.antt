use Rattle.std.proofs.Common.{rules, arith}
use Rattle.fints_rules_permissions.proofs.PermitLemmas.{permits, more_needed, unsaid}
use Rattle.fints_rules_permissions.proofs.permissions.Permissions.permit.Goals as goal

pub returns-in-Some : goal.returns-in-Some
returns-in-Some c = permits c.args.self.now.rows c.args.account.now c.args.kind c.args.signatures c.in-Some.need c.in-Some.ensures c.if-need-signatures.true

pub returns-in-Some-2 : goal.returns-in-Some-2
returns-in-Some-2 c = more_needed c.args.self.now.rows c.args.account.now c.args.kind c.args.signatures c.in-Some.need c.in-Some.ensures (omega arith)

pub returns-in-Unsaid : goal.returns-in-Unsaid
returns-in-Unsaid c = unsaid c.args.self.now.rows c.args.account.now c.args.kind c.args.signatures c.in-None.ensures (search rules)
