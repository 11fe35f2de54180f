use Rattle.std.proofs.Common.{take}
use Rattle.std.specs.Str.{bytes_eq}
use Rattle.indexmap.specs.IndexMap.{get}
use Rattle.fints_rules_permissions.specs.LimitMaps.{HoldsPins}
use Rattle.fints_rules_permissions.proofs.limits.pin_map.Given as goal

abbrev pub invariant-loop-pin : goal.invariant-loop-pin
invariant-loop-pin l = HoldsPins (take l.pin-index l.pins) (get bytes_eq l.map)
