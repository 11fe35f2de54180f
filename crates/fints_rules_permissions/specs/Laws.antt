-- The laws of order tables: a text has one meaning at most. Each is the contract of a public function.
use Rattle.std.specs.Prelude.{◌≡◌, ◌≢◌, ℕ, List}
use Rattle.fints_rules_permissions.specs.declared.orders.OrderRow.{OrderRow}
use Rattle.fints_rules_permissions.specs.declared.orders.TableFault.{TableFault}
use Rattle.fints_rules_permissions.specs.declared.orders.TableFault.TheVariants.{Memory}
use Rattle.fints_rules_permissions.specs.Orders.{DenotesTable, IsTableFault}

-- a text denotes one order table at most
abbrev pub OneTable : Type 0
OneTable = (text : List ℕ) (a b : List OrderRow) → DenotesTable text a → DenotesTable text b → a ≡ b

-- it has one first refusal at most, apart from running out of memory
abbrev pub OneTableFault : Type 0
OneTableFault =
    (text : List ℕ) (f g : TableFault) → IsTableFault text f → IsTableFault text g → f ≢ Memory → g ≢ Memory
    → f ≡ g

-- it never denotes a table and has a refusal
abbrev pub NoTableAtFault : Type 0
NoTableAtFault =
    (text : List ℕ) (rows : List OrderRow) (f : TableFault) → DenotesTable text rows → IsTableFault text f
    → f ≢ Memory → ⊥
