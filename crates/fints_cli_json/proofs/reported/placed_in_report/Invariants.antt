use Rattle.std.proofs.Common.{◌≡◌, map, take}
use Rattle.fints_cli_json.specs.Reported.{placed_by}
use Rattle.fints_cli_json.proofs.reported.placed_in_report.Given as goal

abbrev pub invariant-loop-finding : goal.invariant-loop-finding
invariant-loop-finding l =
    l.placed.items ≡ map (placed_by l.report.plan.script.steps) (take l.finding-index l.report.findings)
