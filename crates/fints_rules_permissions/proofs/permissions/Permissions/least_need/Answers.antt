use Rattle.std.proofs.Common.{subst}
use Rattle.fints_rules_permissions.specs.Needs.{IsLeastOf, seen_in}
use Rattle.fints_rules_permissions.proofs.SeenLemmas.{least_need}
use Rattle.fints_rules_permissions.proofs.permissions.Permissions.least_need.Goals as goal

pub returns-in-Some : goal.returns-in-Some
returns-in-Some c =
    let is = c.in-Some.ensures in
    let accounts = c.args.self.now.rows.accounts in
    let least : IsLeastOf _ (seen_in accounts) c.least.result = rw (← c.self.view_is, ← c.get.ensures) c.least.ensures in
    least_need c.args.self.now.rows c.args.account.now c.args.kind c.least.result is.1
    (subst (λ k. IsLeastOf k (seen_in accounts) c.least.result) is.0 least)
