use Rattle.std.proofs.Common.{◌≡◌, ◌++◌, take}
use Rattle.std.specs.List.{flat_map}
use Rattle.fints_cli_scripts.specs.ReportText.{finding_line}
use Rattle.fints_cli_scripts.proofs.writing.write_findings.Given as goal

abbrev pub invariant-loop-finding : goal.invariant-loop-finding
invariant-loop-finding l =
    (l.findings ≡ l.fn.findings)
    × (l.text.items ≡ l.initial.text.items ++ flat_map (finding_line l.plan.script.steps)
    (take l.finding-index l.findings))
