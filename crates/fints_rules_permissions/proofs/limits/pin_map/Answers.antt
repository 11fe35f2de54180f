use Rattle.std.proofs.Common.{arith, ◌<◌, length, subst}
use Rattle.std.proofs.lemmas.List.{take_all}
use Rattle.std.specs.Str.{bytes_eq}
use Rattle.indexmap.specs.IndexMap.{get}
use Rattle.fints_rules_permissions.specs.LimitMaps.{HoldsPins}
use Rattle.fints_rules_permissions.proofs.LimitLemmas.{pins_step}
use Rattle.fints_rules_permissions.proofs.limits.pin_map.Goals as goal

pub loop-pin-preserved : goal.loop-pin-preserved
loop-pin-preserved c q =
    let here : c.loop-pin.pin-index < length c.args.pins.now = omega arith in
    pins_step q c.args.pins.now c.loop-pin.pin-index c.pin-item.result _ _ _ here c.pin-item.is
    (c.loop-pin.invariant c.pin-item.result.kind) (c.loop-pin.invariant q) (c.in_ok-add_pin.ensures q)

pub returns : goal.returns
returns c = subst (λ rs. HoldsPins rs (get bytes_eq c.loop-pin.map)) (take_all c.loop-pin.pin-index c.args.pins.now c.loop-pin-test.false) c.loop-pin.invariant
