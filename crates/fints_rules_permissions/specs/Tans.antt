-- The rows of HITANS as a table. Only private contracts and the invariant of `Permissions` use this file.
use Rattle.std.specs.Prelude.{◌≡◌, ◌↔◌, ◌==◌, ◌&&◌, ℕ, Bool, not, IsTrue, List}
use Rattle.std.specs.BTreeSet.{contains}
use Rattle.std.specs.List.{list_any}
use Rattle.std.specs.Ordering.{nat_cmp}
use Rattle.fints_params.specs.declared.rows.TanRow.{TanRow}
use Rattle.fints_rules_permissions.specs.Permits.{NeedsTwoSteps}
use Rattle.fints_rules_permissions.specs.declared.tans.TanTable.{TanTable}

-- a row of the version that takes one order at a time
abbrev pub takes_one : ℕ → TanRow → Bool
takes_one version row = (row.version == version) && not row.several

-- the table has the versions that take one order at a time, and whether no row lets a TAN go with its order
pub record HoldsTans (rows : List TanRow) (table : TanTable) : Type 0 where
  pub single : (version : ℕ) → contains nat_cmp table.single version ≡ list_any (takes_one version) rows
  pub two_steps : IsTrue table.two_steps ↔ NeedsTwoSteps rows
