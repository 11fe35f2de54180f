use Rattle.fints_rules_permissions.proofs.parts.BankPermissions.limits.Goals as goal

pub returns : goal.returns
returns c = rw (c.copied.ensures, c.get.ensures.value, ← c.self.view_is) (c.self.invariant.0 _)
