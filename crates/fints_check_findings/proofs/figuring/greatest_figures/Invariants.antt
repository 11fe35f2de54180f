use Rattle.fints_check_findings.specs.Figures.{FiguresAre}
use Rattle.fints_check_findings.proofs.Checking.{AreTo}
use Rattle.fints_check_findings.proofs.figuring.greatest_figures.Given as goal

-- the figures of the steps so far
abbrev pub invariant-loop-i : goal.invariant-loop-i
invariant-loop-i l = AreTo (FiguresAre l.plan.script) l.i l.figures.items
