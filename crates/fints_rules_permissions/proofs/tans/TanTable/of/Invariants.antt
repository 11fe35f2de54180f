use Rattle.std.proofs.Common.{◌≡◌, ℕ, take}
use Rattle.std.specs.BTreeSet.{contains}
use Rattle.std.specs.List.{list_any}
use Rattle.std.specs.Ordering.{nat_cmp}
use Rattle.fints_rules_permissions.specs.Tans.{takes_one}
use Rattle.fints_rules_permissions.proofs.tans.TanTable.of.Given as goal

abbrev pub invariant-loop-row : goal.invariant-loop-row
invariant-loop-row l =
    (version : ℕ)
    → contains nat_cmp l.single version ≡ list_any (takes_one version) (take l.row-index l.rows)
