use Rattle.std.proofs.Common.{◌+◌, ◌∙◌, ap, arith}
use Rattle.std.proofs.lemmas.List.{take_rest}
use Rattle.fints_check_findings.specs.Kinds.{is_last_of_kind}
use Rattle.fints_check_findings.proofs.Counted.{kinds_step}
use Rattle.fints_check_findings.proofs.kinds.count_kinds.Goals as goal
use Rattle.fints_check_findings.proofs.kinds.count_kinds.Goals.{then-is_last_of_kind, else-is_last_of_kind}

pub loop-i-preserved : goal.loop-i-preserved
loop-i-preserved c =
    let step =
    kinds_step c.args.templates.now c.loop-i.i c.index-templates-i.result c.is_last_of_kind.result
    c.loop-i-test.true c.index-templates-i.is
    (c.is_last_of_kind.ensures
    ∙ ap (is_last_of_kind c.index-templates-i.result)
    (take_rest c.args.templates.now (c.loop-i.i + 1))) in
    let old = c.loop-i.invariant.kinds in
    let few = c.loop-i.invariant.few in
    elim c.if-is_last_of_kind.branch [
      | then-is_last_of_kind w ↦
          let n = rw w.if-is_last_of_kind.true at step in
          record { kinds = omega (arith, n, old, w.kinds-is); few = omega (arith, few, w.kinds-is) }
      | else-is_last_of_kind w ↦
          let n = rw w.if-is_last_of_kind.false at step in
          record { kinds = omega (arith, n, old, w.kinds-is); few = omega (arith, few, w.kinds-is) }
    ]
