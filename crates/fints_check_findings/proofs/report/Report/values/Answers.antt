use Rattle.std.proofs.Common.{◌∙◌, ◌≤◌, IfOk, length, sym, subst}
use Rattle.std.proofs.lemmas.Option.{same_Some}
use Rattle.fints_script.specs.Numbered.{numbered_at}
use Rattle.fints_script.specs.Plans.{IsClosed}
use Rattle.fints_check_findings.specs.Findings.{Shows}
use Rattle.fints_check_findings.specs.Cases.{AreChosenFor}
use Rattle.fints_check_findings.specs.Reports.{AreChosenOf, AreValuesOf, LeadsFor, ReportValue}
use Rattle.fints_check_findings.specs.Searching.{AreCaseValues, IsFindingOf}
use Rattle.fints_check_findings.specs.StepFacts.{AreFactsAt}
use Rattle.fints_check_findings.specs.declared.finding.Finding.{Finding}
use Rattle.fints_check_findings.proofs.CaseLemmas.{case_shown, if_ok, real_has}
use Rattle.fints_check_findings.proofs.Checking.{greatest_at}
use Rattle.fints_script.proofs.LawLemmas.{sound_of}
use Rattle.fints_check_findings.proofs.report.Report.values.Goals as goal

pub invariant_of-at : goal.invariant_of-at
invariant_of-at c =
    record {
      from = c.finding-finding.ensures.from;
      to =
          subst (λ (r : ReportValue). c.finding-finding.result.step ≤ length r.plan.script.steps) (sym c.self.view_is)
          c.finding-finding.ensures.to;
      orders = c.self.invariant.0;
    }

pub case_values-requires : goal.case_values-requires
case_values-requires c =
    subst (λ (r : ReportValue). AreFactsAt r.granted r.plan.script c.finding-finding.result.step c.facts-facts.result)
    (sym c.self.view_is) c.facts-facts.ensures

pub returns : goal.returns
returns c =
    let inside = c.self.inside in
    let script = inside.plan.now.script in
    let granted = inside.permissions.now in
    let numbers = inside.numbers.greatest.items in
    let found = c.finding-finding.result in
    let report : ReportValue =
    record {
      plan = inside.plan.now;
      granted = granted;
      figures = inside.figures.items;
      findings = inside.findings.items;
      visits = inside.numbers.visits;
    } in
    let is = subst (λ (r : ReportValue). IsFindingOf r c.args.i found) (sym c.self.view_is)
    c.finding-finding.ensures in
    let sound = sound_of c.self.invariant.8 in
    let closed = subst (IsClosed script) (sym c.self.invariant.0) c.self.invariant.9 in
    let step = numbered_at script.steps found.step is.from is.to in
    let number = real_has script granted sound numbers c.self.invariant.4 found is.real in
    let peak = greatest_at script.steps numbers found.step number.0 c.self.invariant.4 number.1 in
    record {
      shown =
          subst (λ (r : ReportValue). IfOk c.case_values.result (AreValuesOf r c.args.i)) c.self.view_is
          (if_ok (AreCaseValues granted script found) (AreValuesOf report c.args.i) c.case_values.result
          (λ values are f answers at leads.
          let same = same_Some found f (sym is.at ∙ at) in
          subst (λ (x : Finding). Shows granted script x values answers) same
          (case_shown report sound closed c.self.invariant.2 found values answers is.real are
          (subst (λ (x : Finding). LeadsFor script inside.figures.items x answers) (sym same) leads)))
          c.case_values.ensures);
      chosen =
          subst (λ (r : ReportValue). IfOk c.case_values.result (AreChosenOf r c.args.i)) c.self.view_is
          (if_ok (AreCaseValues granted script found) (AreChosenOf report c.args.i) c.case_values.result
          (λ values are f at.
          subst (λ (x : Finding). AreChosenFor granted script x values) (same_Some found f (sym is.at ∙ at))
          (are.chosen number.0 step.0 step.1 peak is.real))
          c.case_values.ensures);
    }
