use Rattle.std.proofs.Common.{◌∙◌, sym, arith}
use Rattle.fints_check_findings.proofs.Counted.{count_step}
use Rattle.fints_check_findings.proofs.kinds.count_kind.Goals as goal
use Rattle.fints_check_findings.proofs.kinds.count_kind.Goals.{then-has_kind, else-has_kind}

pub loop-template-preserved : goal.loop-template-preserved
loop-template-preserved c =
    let more =
    count_step c.args.kind c.args.templates.now c.loop-template.template-index c.template-item.result
    c.has_kind.result c.loop-template-test.true c.template-item.is c.has_kind.ensures in
    let old = c.loop-template.invariant.count in
    let few = c.loop-template.invariant.few in
    elim c.if-has_kind.branch [
      | then-has_kind w ↦ let n = rw w.if-has_kind.true at more in record { count = omega (arith, n, old, w.count-is); few = omega (arith, few, w.count-is) }
      | else-has_kind w ↦ let n = rw w.if-has_kind.false at more in record { count = w.count-is ∙ old ∙ sym n; few = omega (arith, few, w.count-is) }
    ]
