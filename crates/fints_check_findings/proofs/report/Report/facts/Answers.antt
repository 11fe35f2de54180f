use Rattle.std.proofs.Common.{◌-◌, ◌≤◌, length, arith, sym, subst}
use Rattle.std.proofs.lemmas.Option.{slice_get_read}
use Rattle.fints_script.specs.Numbered.{numbered_of}
use Rattle.fints_check_findings.specs.Reports.{ReportValue}
use Rattle.fints_check_findings.specs.StepFacts.{AreFactsAt}
use Rattle.fints_check_findings.proofs.report.Report.facts.Goals as goal

pub returns : goal.returns
returns c =
    let inside = c.self.inside in
    let are = c.self.invariant.7 in
    let within : c.args.n ≤ length inside.plan.now.script.steps =
    subst (λ (r : ReportValue). c.args.n ≤ length r.plan.script.steps) (sym c.self.view_is) c.requires.to in
    subst (λ (r : ReportValue). AreFactsAt r.granted r.plan.script c.args.n c.index.result.now) c.self.view_is
    (are.each c.args.n c.index.result.now
    (numbered_of inside.facts.items c.args.n c.index.result.now c.requires.from
    (slice_get_read inside.facts.items (length inside.plan.now.script.steps) (c.args.n - 1) c.index.result.now
    (sym are.long) (omega (arith, within, c.requires.from)) c.index.ensures)))
