-- The map of forms, by kind and version. Only private contracts and the invariant of `OrderTable` use it.
use Rattle.std.specs.Prelude.{◌≡◌, List, Option}
use Rattle.fints_rules_permissions.specs.declared.keys.OrderKey.{OrderKey}
use Rattle.fints_rules_permissions.specs.Orders.{form_of}
use Rattle.fints_rules_permissions.specs.declared.orders.AccountForm.{AccountForm}
use Rattle.fints_rules_permissions.specs.declared.orders.OrderRow.{OrderRow}

-- the map has the form of each kind and version
abbrev pub HoldsForms : List OrderRow → (OrderKey → Option AccountForm) → Type 0
HoldsForms rows forms = (q : OrderKey) → forms q ≡ form_of rows q.kind q.version
