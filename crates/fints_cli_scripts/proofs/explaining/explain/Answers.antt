use Rattle.std.proofs.Common.{◌∙◌, ◌++◌, List, ℕ, ap}
use Rattle.fints_cli_scripts.specs.ExplainText.{cases_text}
use Rattle.fints_cli_scripts.specs.ReportText.{report_status, report_text}
use Rattle.fints_cli_scripts.proofs.explaining.explain.Goals as goal

pub returns : goal.returns
returns c =
    let script = c.args.report.now.plan.script in
    let figures = c.args.report.now.figures in
    let findings = c.args.report.now.findings in
    let are = c.findings.ensures.exactly in
    let w = c.in_ok-write_cases.ensures in
    record {
      figures = figures;
      findings = findings;
      cases = w.cases;
      figures_are = c.findings.ensures.figures;
      headline =
          record {
            exactly = are.exactly;
            in_order = are.in_order;
            each = w.are;
            clean = c.findings.ensures.permitted;
          };
      chosen = w.chosen;
      text_is =
          w.text_is
          ∙ ap (λ l. l ++ cases_text script.steps 1 findings w.cases)
          (c.in_ok-write_report.ensures
          ∙ ap (λ (l : List ℕ). l ++ report_text script.steps figures findings)
          c.new-text.ensures.items);
      status_is = c.report_status.ensures ∙ ap report_status c.findings.ensures.findings;
    }
