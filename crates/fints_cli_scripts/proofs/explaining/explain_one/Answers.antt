use Rattle.std.proofs.Common.{◌≡◌, ◌∙◌, ◌++◌, ℕ, List, Some, ap, sym, subst}
use Rattle.fints_check_findings.specs.declared.finding.Finding.{Finding}
use Rattle.fints_script.specs.Numbered.{numbered, numbered_from, numbered_holds}
use Rattle.fints_cli_scripts.specs.ExplainText.{shown_case}
use Rattle.fints_cli_scripts.specs.ReportText.{report_status, report_text}
use Rattle.fints_cli_scripts.specs.StepNames.{IsFindingOf}
use Rattle.fints_cli_scripts.proofs.StepLemmas.{findings_within}
use Rattle.fints_cli_scripts.proofs.explaining.explain_one.Goals as goal

pub write_case-requires-clause-of_step : goal.write_case-requires-clause-of_step
write_case-requires-clause-of_step c =
    let report = c.args.report.now in
    let f : Finding = c.in-Some.finding in
    let at : numbered report.findings c.args.number ≡ Some f =
    subst (λ (fs : List Finding). numbered fs c.args.number ≡ Some f) c.findings.ensures.findings
    (sym c.in-Some.ensures) in
    let within = findings_within report.granted report.plan.script report.findings c.findings.ensures.exactly in
    numbered_holds (IsFindingOf report.plan.script.steps) report.findings c.args.number f within at

pub write_case-requires-clause-way : goal.write_case-requires-clause-way
write_case-requires-clause-way c =
    let report = c.args.report.now in
    let f : Finding = c.in-Some.finding in
    let at : numbered report.findings c.args.number ≡ Some f =
    subst (λ (fs : List Finding). numbered fs c.args.number ≡ Some f) c.findings.ensures.findings
    (sym c.in-Some.ensures) in
    c.in_ok-way.ensures f (numbered_from report.findings c.args.number f at)

pub returns-clause-told : goal.returns-clause-told
returns-clause-told c =
    let script = c.args.report.now.plan.script in
    let figures = c.args.report.now.figures in
    let findings = c.args.report.now.findings in
    let f : Finding = c.in-Some.finding in
    let w = c.in_ok-write_case.ensures.written in
    record {
      figures = figures;
      findings = findings;
      finding = f;
      case = w.case;
      figures_are = c.findings.ensures.figures;
      findings_are = c.findings.ensures.exactly;
      number_is =
          subst (λ (fs : List Finding). numbered fs c.args.number ≡ Some f) c.findings.ensures.findings
          (sym c.in-Some.ensures);
      shows = w.shows;
      chosen = w.chosen;
      text_is =
          w.text_is
          ∙ ap (λ l. l ++ shown_case script.steps c.args.number f w.case)
          (c.in_ok-write_report.ensures
          ∙ ap (λ (l : List ℕ). l ++ report_text script.steps figures findings)
          c.new-text.ensures.items);
      status_is = c.report_status.ensures ∙ ap report_status c.findings-2.ensures.findings;
    }
