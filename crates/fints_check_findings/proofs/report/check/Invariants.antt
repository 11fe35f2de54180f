use Rattle.std.proofs.Common.{◌≡◌, ◌+◌, map, take}
use Rattle.std.specs.Prelude.{is_some}
use Rattle.fints_check_findings.specs.Searching.{AreFoundTo}
use Rattle.fints_check_findings.specs.Figures.{FiguresAre}
use Rattle.fints_check_findings.specs.StepFacts.{AreFactsAt}
use Rattle.fints_check_findings.proofs.Checking.{AreTo}
use Rattle.fints_check_findings.proofs.report.check.Given as goal

-- the steps so far were looked at
abbrev pub invariant-loop-i : goal.invariant-loop-i
invariant-loop-i l = record {
  findings : AreFoundTo l.permissions l.plan.script (l.i + 1) 1 0 l.findings.items;
  figures : AreTo (FiguresAre l.plan.script) l.i l.figures.items;
  facts : AreTo (AreFactsAt l.permissions l.plan.script) l.i l.facts.items;
  reached : map is_some l.figures.items ≡ map is_some (take l.i l.numbers.greatest.items);
}
