use Rattle.fints_rules_permissions.proofs.parts.BankPermissions.needs_two_steps.Goals as goal

pub returns : goal.returns
returns c = rw (← c.self.view_is) (c.self.invariant.2.two_steps)
