use Rattle.std.proofs.Common.{◌<◌, ℕ, length, ap, sym, subst}
use Rattle.fints_check_findings.specs.Reports.{ReportValue}
use Rattle.fints_check_findings.specs.Searching.{IsFindingOf}
use Rattle.fints_check_findings.proofs.CaseLemmas.{finding_of}
use Rattle.fints_script.proofs.LawLemmas.{sound_of}
use Rattle.fints_check_findings.proofs.report.Report.finding.Goals as goal

pub returns : goal.returns
returns c =
    let inside = c.self.inside in
    let report : ReportValue =
    record {
      plan = inside.plan.now;
      granted = inside.permissions.now;
      figures = inside.figures.items;
      findings = inside.findings.items;
      visits = inside.numbers.visits;
    } in
    let few : c.args.i < length inside.findings.items =
    subst (λ (m : ℕ). c.args.i < m) (sym (ap (λ (r : ReportValue). length r.findings) c.self.view_is))
    c.requires in
    subst (λ (r : ReportValue). IsFindingOf r c.args.i c.index.result.now) c.self.view_is
    (finding_of report c.args.i c.index.result.now (sound_of c.self.invariant.8) c.self.invariant.1 few
    c.index.ensures)
