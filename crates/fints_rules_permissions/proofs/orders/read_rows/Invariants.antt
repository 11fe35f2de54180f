use Rattle.std.proofs.Common.{◌≡◌, map, take}
use Rattle.toml.specs.View.{view}
use Rattle.fints_rules_permissions.specs.Orders.{row_of}
use Rattle.fints_rules_permissions.proofs.orders.read_rows.Given as goal

abbrev pub invariant-loop-entry : goal.invariant-loop-entry
invariant-loop-entry l = l.read.items ≡ map row_of (map view (take l.entry-index l.entries))
