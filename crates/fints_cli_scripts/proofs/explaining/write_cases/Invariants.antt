use Rattle.std.proofs.Common.{take}
use Rattle.fints_cli_scripts.specs.Explaining.{AreCasesWritten, IsWayTo}
use Rattle.fints_cli_scripts.proofs.explaining.write_cases.Given as goal

-- the cases of the findings so far, and answers that lead to the last one's step
abbrev pub invariant-loop-i : goal.invariant-loop-i
invariant-loop-i l = record {
  way : IsWayTo l.report.plan.script.steps l.report.figures l.at l.way.items;
  written : AreCasesWritten l.report.granted l.report.plan.script l.report.figures
      (take l.i l.report.findings)
      l.initial.text.items l.text.items;
}
