use Rattle.std.proofs.Common.{◌∙◌, sym, arith}
use Rattle.fints_check_findings.proofs.Counted.{demanding_step}
use Rattle.fints_check_findings.proofs.kinds.count_demanding.Goals as goal
use Rattle.fints_check_findings.proofs.kinds.count_demanding.Goals.{then-is_demanding, else-is_demanding}

pub loop-template-preserved : goal.loop-template-preserved
loop-template-preserved c =
    let more =
    demanding_step c.args.permissions.now.rows.pins c.args.templates.now c.loop-template.template-index
    c.template-item.result c.is_demanding.result c.loop-template-test.true c.template-item.is
    c.is_demanding.ensures in
    let old = c.loop-template.invariant.count in
    let few = c.loop-template.invariant.few in
    elim c.if-is_demanding.branch [
      | then-is_demanding w ↦
          let n = rw w.if-is_demanding.true at more in
          record { count = omega (arith, n, old, w.count-is); few = omega (arith, few, w.count-is) }
      | else-is_demanding w ↦ let n = rw w.if-is_demanding.false at more in record { count = w.count-is ∙ old ∙ sym n; few = omega (arith, few, w.count-is) }
    ]
