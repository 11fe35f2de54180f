-- What the rows of a capture permit an order, by its kind, its version and its account.
use Rattle.std.specs.Prelude.{◌≡◌, ◌≢◌, ℕ, ◌<◌, ◌≤◌, Bool, true, false, ◌&&◌, ◌==◌, List, [], filter, Option, Some, None, Any, All, Contains}
use Rattle.std.specs.List.{list_any}
use Rattle.std.specs.Str.{bytes_eq}
use Rattle.fints_params.specs.Parameters.{Rows, BankRows, UserRows, joined}
use Rattle.fints_params.specs.declared.rows.OrderParam.{OrderParam}
use Rattle.fints_params.specs.declared.rows.PinRow.{PinRow}
use Rattle.fints_params.specs.declared.rows.TanRow.{TanRow}
use Rattle.fints_params.specs.declared.rows.AccountRow.{AccountRow}
use Rattle.fints_params.specs.declared.rows.Entry.{Entry}
use Rattle.fints_params.specs.declared.rows.Usage.TheVariants as usage
use Rattle.fints_rules_permissions.specs.declared.limits.Limits.{Limits}
use Rattle.fints_rules_permissions.specs.declared.limits.Demand.{Demand}
use Rattle.fints_rules_permissions.specs.declared.limits.Demand.TheVariants as demand
use Rattle.fints_rules_permissions.specs.declared.permissions.Permit.{Permit}
use Rattle.fints_rules_permissions.specs.declared.permissions.Permit.TheVariants as permit
use Rattle.fints_rules_permissions.specs.declared.orders.OrderRow.{OrderRow}
use Rattle.fints_rules_permissions.specs.Accounts.{Account}
use Rattle.fints_rules_permissions.specs.AccountRows.{Matches}
use Rattle.fints_rules_permissions.specs.Kinds.{is_plain_order}

-- what `Permissions` holds: the rows of a capture and of an order table
pub record Granted : Type 0 where
  pub rows : Rows
  pub orders : List OrderRow

-- what its part of the bank holds: the bank's rows of a capture, and an order table's
pub record BankGranted : Type 0 where
  pub rows : BankRows
  pub orders : List OrderRow

-- both, for a user
abbrev pub granted : BankGranted → UserRows → Granted
granted bank user = record { rows = joined bank.rows user; orders = bank.orders }

-- ---- limits

abbrev pub is_param_of : List ℕ → ℕ → OrderParam → Bool
is_param_of kind version row = bytes_eq row.kind kind && (row.version == version)

-- the rows of a kind and version
abbrev pub params_of : List ℕ → ℕ → List OrderParam → List OrderParam
params_of kind version rows = filter (is_param_of kind version) rows

-- the least limit that isn't 0, or 0 where there is none
pub record IsLeastLimit (rows : List OrderParam) (n : ℕ) : Type 0 where
  pub some : n ≢ 0 → Any (λ row. row.orders ≡ n) rows
  pub least : All (λ row. row.orders ≢ 0 → (n ≢ 0) × (n ≤ row.orders)) rows

-- the greatest number of signatures
pub record IsGreatestNeed (rows : List OrderParam) (n : ℕ) : Type 0 where
  pub some : Any (λ row. row.signatures ≡ n) rows
  pub greatest : All (λ row. row.signatures ≤ n) rows

pub record IsLimits (rows : List OrderParam) (limits : Limits) : Type 0 where
  pub orders : IsLeastLimit rows limits.orders
  pub signatures : IsGreatestNeed rows limits.signatures

-- the limits of all rows of a kind and version, if there are any
abbrev pub LimitsAre : List OrderParam → Option Limits → Type 0
LimitsAre rows None = rows ≡ []
LimitsAre rows (Some limits) = IsLimits rows limits

-- some row of the kind and version needs more signatures
abbrev pub OrderNeedsMore : Rows → List ℕ → ℕ → ℕ → Type 0
OrderNeedsMore rows kind version signatures =
    Any (λ row. signatures < row.signatures) (params_of kind version rows.orders)

-- ---- TAN

-- some HITANS of the version takes one order at a time
abbrev pub TakesOneOrder : List TanRow → ℕ → Type 0
TakesOneOrder rows version = Any (λ row. (row.version ≡ version) × (row.several ≡ false)) rows

-- some HITANS lets a TAN go with its order
abbrev pub LetsOneStep : List TanRow → Type 0
LetsOneStep rows = Any (λ row. row.one_step ≡ true) rows

-- HITANS are there, and none lets a TAN go with its order
abbrev pub NeedsTwoSteps : List TanRow → Type 0
NeedsTwoSteps rows = (rows ≢ []) × (LetsOneStep rows → ⊥)

abbrev pub IsListedKind : List PinRow → List ℕ → Type 0
IsListedKind pins kind = Any (λ pin. pin.kind ≡ kind) pins

-- J holds over N
abbrev pub IsListedWithTan : List PinRow → List ℕ → Type 0
IsListedWithTan pins kind = Any (λ pin. (pin.kind ≡ kind) × (pin.tan ≡ true)) pins

-- the same, as a test
abbrev pub is_listed_with_tan : List PinRow → List ℕ → Bool
is_listed_with_tan pins kind = list_any (λ pin. bytes_eq pin.kind kind && pin.tan) pins

-- an order other than HKTAN that is listed with J
abbrev pub is_demanding : List PinRow → List ℕ → Bool
is_demanding pins kind = is_plain_order kind && is_listed_with_tan pins kind

abbrev pub DemandIs : List PinRow → List ℕ → Demand → Type 0
DemandIs pins kind demand.Unlisted = IsListedKind pins kind → ⊥
DemandIs pins kind demand.No = IsListedKind pins kind × (IsListedWithTan pins kind → ⊥)
DemandIs pins kind demand.Tan = IsListedWithTan pins kind

-- ---- accounts

-- an entry of the kind, in a row of the account
pub record IsEntryOf (rows : Rows) (account : Account) (kind : List ℕ) (entry : Entry) : Type 0 where
  pub row : AccountRow
  pub among : Contains rows.accounts row
  pub matches : Matches account row
  pub within : Contains row.entries entry
  pub kind_is : entry.kind ≡ kind

-- no entry of the kind is there for the account, or n is the least number of signatures that one needs
abbrev pub IsLeastNeed : Rows → Account → List ℕ → Option ℕ → Type 0
IsLeastNeed rows account kind None = (e : Entry) → IsEntryOf rows account kind e → ⊥
IsLeastNeed rows account kind (Some n) =
    ((e : Entry) × IsEntryOf rows account kind e × (e.signatures ≡ n))
    × ((e : Entry) → IsEntryOf rows account kind e → n ≤ e.signatures)

-- some entry of the kind is there, and every such entry needs more signatures
pub record AllNeedMore (rows : Rows) (account : Account) (kind : List ℕ) (signatures : ℕ) : Type 0 where
  pub entry : Entry
  pub is_entry : IsEntryOf rows account kind entry
  pub need : (e : Entry) → IsEntryOf rows account kind e → signatures < e.signatures

-- no entry of the kind is there, and what isn't listed is locked
pub record IsLocked (rows : Rows) (account : Account) (kind : List ℕ) : Type 0 where
  pub none : (e : Entry) → IsEntryOf rows account kind e → ⊥
  pub locked : rows.usage ≡ usage.Locked

abbrev pub PermitIs : Rows → Account → List ℕ → ℕ → Permit → Type 0
PermitIs rows account kind signatures permit.Refused = IsLocked rows account kind
PermitIs rows account kind signatures permit.MoreSignatures = AllNeedMore rows account kind signatures
PermitIs rows account kind signatures permit.Allowed =
    (IsLocked rows account kind → ⊥) × (AllNeedMore rows account kind signatures → ⊥)
