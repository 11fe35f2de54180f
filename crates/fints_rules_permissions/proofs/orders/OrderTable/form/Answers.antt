use Rattle.fints_rules_permissions.proofs.orders.OrderTable.form.Goals as goal

pub returns : goal.returns
returns c = rw (c.copied.ensures, c.get.ensures.value, ← c.self.view_is) (c.self.invariant _)
