use Rattle.std.proofs.Common.{◌≡◌, map, take}
use Rattle.std.specs.List.{flat_map}
use Rattle.fints_rules_permissions.specs.Needs.{seen_at, seen_in_row}
use Rattle.fints_rules_permissions.proofs.needs.places_in.Given as goal

abbrev pub invariant-loop-row : goal.invariant-loop-row
invariant-loop-row l = map (seen_at l.rows) l.places.items ≡ flat_map seen_in_row (take l.row l.rows)
