use Rattle.std.proofs.Common.{◌∙◌, ◌++◌, ℕ, List, ap}
use Rattle.fints_cli_scripts.specs.ReportText.{report_status, report_text}
use Rattle.fints_cli_scripts.proofs.Endings.{clean_is_none}
use Rattle.fints_cli_scripts.proofs.writing.reply.Goals as goal

pub returns-clause-report : goal.returns-clause-report
returns-clause-report c =
    let script = c.args.report.now.plan.script in
    let figures = c.args.report.now.figures in
    let findings = c.args.report.now.findings in
    let text = c.in_ok-write_report.ensures ∙ ap (λ (l : List ℕ). l ++ report_text script.steps figures findings) c.new-text.ensures.items in
    record {
      figures = figures;
      findings = findings;
      figures_are = c.findings.ensures.figures;
      findings_are = c.findings.ensures.exactly;
      text_is = text;
      status_is = c.report_status.ensures ∙ ap report_status c.findings.ensures.findings;
      permitted = λ ends. c.findings.ensures.permitted (clean_is_none script.steps figures findings _ text ends);
    }
