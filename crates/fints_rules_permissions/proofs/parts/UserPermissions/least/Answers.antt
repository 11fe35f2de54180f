use Rattle.std.specs.List.Sorted.{IsPermutation}
use Rattle.fints_rules_permissions.specs.Needs.{seen_in}
use Rattle.fints_rules_permissions.proofs.SeenLemmas.{least_of}
use Rattle.fints_rules_permissions.proofs.parts.UserPermissions.least.Goals as goal

pub returns : goal.returns
returns c =
    let held : IsPermutation (seen_in c.args.self.now.accounts) c.self.inside.needs = rw (← c.self.view_is) c.self.invariant in
    least_of _ _ _ c.least.result held c.least.ensures
