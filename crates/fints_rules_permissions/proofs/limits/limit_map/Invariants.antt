use Rattle.std.proofs.Common.{take}
use Rattle.indexmap.specs.IndexMap.{get}
use Rattle.fints_rules_permissions.specs.LimitMaps.{HoldsLimits}
use Rattle.fints_rules_permissions.specs.OrderKeys.{key_eq}
use Rattle.fints_rules_permissions.proofs.limits.limit_map.Given as goal

abbrev pub invariant-loop-row : goal.invariant-loop-row
invariant-loop-row l = HoldsLimits (take l.row-index l.rows) (get key_eq l.map)
