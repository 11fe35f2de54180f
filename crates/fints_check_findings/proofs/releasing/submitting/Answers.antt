use Rattle.std.proofs.Common.{◌+◌, List, Bool, sym, subst}
use Rattle.fints_check_findings.specs.Releases.{AreSubmittingTo}
use Rattle.fints_check_findings.proofs.Holding.{marks_more}
use Rattle.fints_check_findings.proofs.releasing.submitting.Goals as goal

pub loop-i-preserved : goal.loop-i-preserved
loop-i-preserved c =
    let steps = c.args.plan.now.script.steps in
    subst (λ (xs : List Bool). AreSubmittingTo steps (c.loop-i.i + 1) xs) (sym c.in_ok-push.ensures.items)
    (marks_more steps c.loop-i.i c.loop-i.marks.items c.step.result.now c.submits.result
    c.step.ensures.numbered c.submits.ensures c.loop-i.invariant)
