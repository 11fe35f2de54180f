use Rattle.std.proofs.Common.{◌≡◌, take}
use Rattle.std.specs.Prelude.{map}
use Rattle.indexmap.specs.IndexMap.{get}
use Rattle.toml.specs.View.{view}
use Rattle.fints_rules_permissions.specs.FormMaps.{HoldsForms}
use Rattle.fints_rules_permissions.specs.OrderKeys.{key_eq}
use Rattle.fints_rules_permissions.specs.Orders.{AreRows}
use Rattle.fints_rules_permissions.proofs.orders.rows_of.Given as goal

abbrev pub invariant-loop-entry : goal.invariant-loop-entry
invariant-loop-entry l = record {
  counted : l.number ≡ l.entry-index;
  rows : AreRows (take l.entry-index (map view l.entries)) l.rows.items;
  forms : HoldsForms l.rows.items (get key_eq l.forms);
}
