-- The refusals of an order table, as its parts give them. Only private contracts use this file.
use Rattle.std.specs.Prelude.{◌≡◌, codes, true, false, List, Option}
use Rattle.toml.specs.Data.{Data, Members, get_member}
use Rattle.fints_rules_permissions.specs.declared.orders.OrderRow.{OrderRow}
use Rattle.fints_rules_permissions.specs.declared.orders.TableFault.{TableFault}
use Rattle.fints_rules_permissions.specs.declared.orders.TableFault.TheVariants as faults
use Rattle.fints_syntax_texts.specs.Document.{only_keys}
use Rattle.fints_rules_permissions.specs.Orders.{IsFirstBad, IsNoRow, IsSecondRow, IsTableAt, IsBadRowAt, IsTwoRowsAt, table_keys}

-- of the entries
abbrev pub IsEntryFault : List Data → TableFault → Type 0
IsEntryFault entries (faults.BadRow n) = IsFirstBad entries n IsNoRow
IsEntryFault entries (faults.TwoRows n) = IsFirstBad entries n IsSecondRow
IsEntryFault entries faults.Memory = Unit {0}
IsEntryFault entries _ = ⊥

-- of the value at `order`
abbrev pub IsFaultAt : Option Data → TableFault → Type 0
IsFaultAt found (faults.BadRow n) = IsBadRowAt found n
IsFaultAt found (faults.TwoRows n) = IsTwoRowsAt found n
IsFaultAt found faults.Memory = Unit {0}
IsFaultAt found _ = ⊥

-- of the document
abbrev pub IsTableIn : Members → List OrderRow → Type 0
IsTableIn ms rows = (only_keys table_keys ms ≡ true) × IsTableAt (get_member (codes "order") ms) rows

abbrev pub IsFaultIn : Members → TableFault → Type 0
IsFaultIn ms faults.UnknownKey = only_keys table_keys ms ≡ false
IsFaultIn ms (faults.BadRow n) =
    (only_keys table_keys ms ≡ true) × IsBadRowAt (get_member (codes "order") ms) n
IsFaultIn ms (faults.TwoRows n) =
    (only_keys table_keys ms ≡ true) × IsTwoRowsAt (get_member (codes "order") ms) n
IsFaultIn ms faults.Memory = Unit {0}
IsFaultIn ms faults.NotToml = ⊥
