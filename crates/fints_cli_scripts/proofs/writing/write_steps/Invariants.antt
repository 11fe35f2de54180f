use Rattle.std.proofs.Common.{◌≡◌, ◌++◌, take}
use Rattle.fints_cli_scripts.specs.ReportText.{step_lines}
use Rattle.fints_cli_scripts.proofs.writing.write_steps.Given as goal

-- the lines of the steps so far
abbrev pub invariant-loop-i : goal.invariant-loop-i
invariant-loop-i l = l.text.items ≡ l.initial.text.items ++ step_lines (take l.i l.report.plan.script.steps) l.report.figures
