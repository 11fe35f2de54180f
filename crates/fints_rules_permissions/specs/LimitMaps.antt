-- The maps of limits and of demands, row by row. Only private contracts, the invariant of `Permissions` and proofs use this file.
use Rattle.std.specs.Prelude.{ℕ, Bool, true, false, ◌||◌, ◌==◌, if◌then◌else◌, List, max, nat_lt, unwrap_or, Option, Some, None}
use Rattle.fints_params.specs.declared.rows.OrderParam.{OrderParam}
use Rattle.fints_params.specs.declared.rows.PinRow.{PinRow}
use Rattle.fints_rules_permissions.specs.declared.keys.OrderKey.{OrderKey}
use Rattle.fints_rules_permissions.specs.declared.limits.Limits.{Limits}
use Rattle.fints_rules_permissions.specs.Permits.{LimitsAre, params_of, IsListedKind, IsListedWithTan}

-- the map has the limits of each kind and version
abbrev pub HoldsLimits : List OrderParam → (OrderKey → Option Limits) → Type 0
HoldsLimits rows limits = (q : OrderKey) → LimitsAre (params_of q.kind q.version rows) (limits q)

-- what the map has at a kind
abbrev pub PinIs : List PinRow → List ℕ → Option Bool → Type 0
PinIs pins kind None = IsListedKind pins kind → ⊥
PinIs pins kind (Some true) = IsListedWithTan pins kind
PinIs pins kind (Some false) = IsListedKind pins kind × (IsListedWithTan pins kind → ⊥)

abbrev pub HoldsPins : List PinRow → (List ℕ → Option Bool) → Type 0
HoldsPins pins found = (kind : List ℕ) → PinIs pins kind (found kind)

-- ---- one more row

-- the lower of two limits, where 0 is no limit
abbrev pub lower : ℕ → ℕ → ℕ
lower m n = if m == 0 then n else if n == 0 then m else if nat_lt n m then n else m

-- the limits of both
abbrev pub joined : Limits → Limits → Limits
joined a b = record { orders = lower a.orders b.orders; signatures = max a.signatures b.signatures }

-- what a row says
abbrev pub limits_of : OrderParam → Limits
limits_of row = record { orders = row.orders; signatures = row.signatures }

-- the limits after one more row
abbrev pub with_limits : Option Limits → OrderParam → Limits
with_limits None row = limits_of row
with_limits (Some limits) row = joined (limits_of row) limits

-- whether a TAN is demanded after one more pair
abbrev pub with_pin : Option Bool → PinRow → Bool
with_pin found row = unwrap_or found false || row.tan
