use Rattle.std.proofs.Common.{◌≡◌, ◌++◌, map, take, get_or}
use Rattle.std.specs.List.{flat_map}
use Rattle.fints_params.specs.declared.rows.AccountRow.{AccountRow}
use Rattle.fints_rules_permissions.specs.Needs.{seen_at, seen_twice}
use Rattle.fints_rules_permissions.proofs.needs.add_row.Given as goal

abbrev pub invariant-loop-entry : goal.invariant-loop-entry
invariant-loop-entry l =
    (none : AccountRow)
    → map (seen_at l.rows) l.places.items ≡ map (seen_at l.rows) l.initial.places.items ++ flat_map
    (seen_twice (get_or l.rows l.row none)) (take l.entry (get_or l.rows l.row none).entries)
