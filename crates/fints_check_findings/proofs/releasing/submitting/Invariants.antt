use Rattle.fints_check_findings.specs.Releases.{AreSubmittingTo}
use Rattle.fints_check_findings.proofs.releasing.submitting.Given as goal

-- the steps so far are marked
abbrev pub invariant-loop-i : goal.invariant-loop-i
invariant-loop-i l = AreSubmittingTo l.plan.script.steps l.i l.marks.items
