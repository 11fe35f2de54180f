use Rattle.std.proofs.Common.{◌≡◌, ◌∙◌, ◌≤◌, IfOk, length, sym, subst}
use Rattle.std.proofs.lemmas.Option.{same_Some}
use Rattle.fints_check_reach.specs.Ways.{LeadsTo}
use Rattle.fints_check_findings.specs.Findings.{IsReal}
use Rattle.fints_check_findings.specs.Releases.{LeadsFromFirst}
use Rattle.fints_check_findings.specs.Reports.{IsWayOf, LeadsFor, ReportValue}
use Rattle.fints_check_findings.specs.Searching.{IsFindingOf}
use Rattle.fints_check_findings.specs.declared.finding.Finding.{Finding}
use Rattle.fints_check_findings.proofs.CaseLemmas.{by_figures, if_ok, real_has}
use Rattle.fints_script.proofs.LawLemmas.{sound_of}
use Rattle.fints_check_findings.proofs.report.Report.way.Goals as goal

pub invariant_of-way : goal.invariant_of-way
invariant_of-way c =
    record {
      from = c.finding-finding.ensures.from;
      to =
          subst (λ (r : ReportValue). c.finding-finding.result.step ≤ length r.plan.script.steps) (sym c.self.view_is)
          c.finding-finding.ensures.to;
    }

pub longest_way-requires-clause-reached : goal.longest_way-requires-clause-reached
longest_way-requires-clause-reached c =
    let inside = c.self.inside in
    let f = c.finding-finding.result in
    real_has inside.plan.now.script inside.permissions.now (sound_of c.self.invariant.8)
    inside.numbers.greatest.items c.self.invariant.4 f
    (subst (λ (r : ReportValue). IsReal r.granted r.plan.script f) (sym c.self.view_is)
    c.finding-finding.ensures.real)

pub returns-in-Release : goal.returns-in-Release
returns-in-Release c =
    let report = c.args.self.now in
    if_ok (λ answers. LeadsFromFirst report.plan.script c.finding-finding.result.step answers.items)
    (λ answers. IsWayOf report c.args.i answers.items) c.unreleased_way.result
    (λ answers way f at.
    subst (λ (x : Finding). LeadsFor report.plan.script report.figures x answers.items)
    (same_Some c.finding-finding.result f (sym c.finding-finding.ensures.at ∙ at))
    (record {
      longest = λ other. absurd (other c.in-Release.is);
      unreleased = λ is. way;
    }))
    c.unreleased_way.ensures

pub returns-in_default : goal.returns-in_default
returns-in_default c =
    let inside = c.self.inside in
    let script = inside.plan.now.script in
    let numbers = inside.numbers.greatest.items in
    let found = c.finding-finding.result in
    let report : ReportValue =
    record {
      plan = inside.plan.now;
      granted = inside.permissions.now;
      figures = inside.figures.items;
      findings = inside.findings.items;
      visits = inside.numbers.visits;
    } in
    let is = subst (λ (r : ReportValue). IsFindingOf r c.args.i found) (sym c.self.view_is)
    c.finding-finding.ensures in
    subst (λ (r : ReportValue). IfOk c.longest_way.result (λ answers. IsWayOf r c.args.i answers.items)) c.self.view_is
    (if_ok (λ answers. LeadsTo script.steps numbers found.step answers.items)
    (λ answers. IsWayOf report c.args.i answers.items) c.longest_way.result
    (λ answers way f at.
    subst (λ (x : Finding). LeadsFor script inside.figures.items x answers.items)
    (same_Some found f (sym is.at ∙ at))
    (record {
      longest =
          λ other.
          by_figures script (sound_of c.self.invariant.8) numbers inside.figures.items found.step
          answers.items c.self.invariant.4 c.self.invariant.2 way;
      unreleased = λ is. absurd (c.in_default.not-Release is);
    }))
    c.longest_way.ensures)
