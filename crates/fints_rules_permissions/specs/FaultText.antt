-- What the refusal of an order table says.
use Rattle.std.specs.Prelude.{codes, ◌++◌, ℕ, List}
use Rattle.std.specs.Fmt.{decimal}
use Rattle.fints_rules_permissions.specs.declared.orders.TableFault.{TableFault}
use Rattle.fints_rules_permissions.specs.declared.orders.TableFault.TheVariants as faults

abbrev pub table_text : TableFault → List ℕ
table_text faults.NotToml = codes "NotToml"
table_text faults.UnknownKey = codes "UnknownKey"
table_text (faults.BadRow row) = codes "BadRow " ++ decimal row
table_text (faults.TwoRows row) = codes "TwoRows " ++ decimal row
table_text faults.Memory = codes "memory"
