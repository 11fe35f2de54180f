use Rattle.std.proofs.Common.{◌≡◌, take}
use Rattle.std.specs.List.{All}
use Rattle.fints_script_fields.specs.Names.{IsName}
use Rattle.fints_check.specs.Certificates.{line_figures, line_names, step_names}
use Rattle.fints_check.specs.declared.certificate.Line.{Line}
use Rattle.fints_check_findings.specs.Figures.{FiguresAre}
use Rattle.fints_check_findings.proofs.Checking.{AreTo}
use Rattle.fints_check.proofs.making.lines_of.Given as goal

abbrev pub invariant-loop-i : goal.invariant-loop-i
invariant-loop-i l = record {
  names : line_names l.lines.items ≡ step_names (take l.i l.report.plan.script.steps);
  figures : AreTo (FiguresAre l.report.plan.script) l.i (line_figures l.lines.items);
  are_names : All (λ (line : Line). IsName line.name) l.lines.items;
}
