-- A kind and a version as the key of a map. Only private contracts, the invariants of types and proofs use this file.
use Rattle.std.specs.Prelude.{Bool, ◌&&◌, ◌==◌}
use Rattle.std.specs.Str.{bytes_eq}
use Rattle.fints_params.specs.declared.rows.OrderParam.{OrderParam}
use Rattle.fints_rules_permissions.specs.declared.keys.OrderKey.{OrderKey}
use Rattle.fints_rules_permissions.specs.declared.orders.OrderRow.{OrderRow}

-- of the same kind and version
abbrev pub key_eq : OrderKey → OrderKey → Bool
key_eq a b = bytes_eq a.kind b.kind && (a.version == b.version)

-- the kind and version of a row of a capture
abbrev pub param_key : OrderParam → OrderKey
param_key row = record { kind = row.kind; version = row.version }

-- the kind and version of a row of an order table
abbrev pub row_key : OrderRow → OrderKey
row_key row = record { kind = row.kind; version = row.version }
