use Rattle.std.proofs.Common.{arith, ◌<◌, length}
use Rattle.fints_rules_permissions.specs.OrderKeys.{param_key}
use Rattle.fints_rules_permissions.proofs.LimitLemmas.{limits_step}
use Rattle.fints_rules_permissions.proofs.limits.limit_map.Goals as goal

pub loop-row-preserved : goal.loop-row-preserved
loop-row-preserved c q =
    let here : c.loop-row.row-index < length c.args.rows.now = omega arith in
    limits_step q c.args.rows.now c.loop-row.row-index c.row-item.result _ _ _ here c.row-item.is
    (c.loop-row.invariant (param_key c.row-item.result)) (c.loop-row.invariant q) (c.in_ok-place.ensures q)
