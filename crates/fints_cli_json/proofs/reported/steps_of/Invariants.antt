use Rattle.std.proofs.Common.{◌≡◌, take}
use Rattle.fints_cli_json.specs.Reported.{figures_of}
use Rattle.fints_cli_json.proofs.reported.steps_of.Given as goal

abbrev pub invariant-loop-i : goal.invariant-loop-i
invariant-loop-i l = l.steps.items ≡ figures_of (take l.i l.report.plan.script.steps) l.report.figures
