use Rattle.fints_rules_permissions.proofs.parts.BankPermissions.takes_one_order.Goals as goal

pub returns : goal.returns
returns c = rw (← c.self.view_is) (c.takes_one.ensures _ c.self.invariant.2)
