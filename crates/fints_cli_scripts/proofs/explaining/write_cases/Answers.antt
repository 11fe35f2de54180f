use Rattle.std.proofs.Common.{◌≡◌, ℕ, List, All, Some, get_or, sym, subst}
use Rattle.std.specs.List.{slice_get}
use Rattle.std.proofs.lemmas.Option.{slice_get-get_or}
use Rattle.fints_check_findings.specs.declared.finding.Finding.{Finding}
use Rattle.fints_check_findings.specs.Reports.{LeadsFor}
use Rattle.fints_rules.specs.declared.rule.Rule.TheVariants as rule
use Rattle.fints_cli_scripts.specs.StepNames.{IsFindingOf}
use Rattle.fints_cli_scripts.proofs.CaseLemmas.{way_on, written_more}
use Rattle.fints_cli_scripts.proofs.StepLemmas.{findings_within}
use Rattle.fints_cli_scripts.proofs.explaining.write_cases.Goals as goal

-- what a place past the end is read as
nothing : Finding
nothing = record { step = 0; rule = rule.Protocol; segment = 0 }

pub write_case-requires-clause-of_step : goal.write_case-requires-clause-of_step
unfolding nothing
write_case-requires-clause-of_step c =
    let within = findings_within c.args.report.now.granted c.args.report.now.plan.script c.args.report.now.findings c.findings-findings.ensures.exactly in
    let all = subst (All (IsFindingOf c.args.report.now.plan.script.steps)) (sym c.findings-findings.ensures.findings) within in
    all c.loop-i.i nothing c.loop-i-test.true

pub loop-i-preserved : goal.loop-i-preserved
unfolding nothing
loop-i-preserved c =
    let f : Finding = get_or c.findings-findings.result.now c.loop-i.i nothing in
    let at : slice_get c.args.report.now.findings c.loop-i.i ≡ Some f =
    subst (λ (fs : List Finding). slice_get fs c.loop-i.i ≡ Some f) c.findings-findings.ensures.findings
    (slice_get-get_or c.findings-findings.result.now c.loop-i.i nothing c.loop-i-test.true)
    in
    record {
      way =
          way_on c.args.report.now f c.in_ok-way-2.way.items c.way_step-at.result c.way_step-at.ensures
          (subst
          (λ (a : List (List ℕ)). LeadsFor c.args.report.now.plan.script c.args.report.now.figures f a)
          (sym c.in_ok-way-2.ensures.kept) c.in_ok-way.ensures);
      written =
          written_more c.args.report.now.granted c.args.report.now.plan.script c.args.report.now.figures
          c.args.report.now.findings c.loop-i.i f c.args.text.now.items c.loop-i.text.items
          c.write_case.new.text.items at c.loop-i.invariant.written c.in_ok-way-2.ensures.written;
    }
