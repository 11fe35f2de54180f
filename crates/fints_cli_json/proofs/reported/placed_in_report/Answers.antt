use Rattle.std.proofs.Common.{◌≤◌, All, length, sym, subst}
use Rattle.fints_rules.specs.declared.rule.Rule.TheVariants as rule
use Rattle.fints_check_findings.specs.declared.finding.Finding.{Finding}
use Rattle.fints_script.specs.Plans.{PlanValue}
use Rattle.fints_cli_scripts.specs.StepNames.{HasStep, IsFindingOf}
use Rattle.fints_cli_scripts.proofs.StepLemmas.{findings_within}
use Rattle.fints_cli_json.proofs.reported.placed_in_report.Goals as goal
use Rattle.fints_cli_json.proofs.reported.placed_in_report.Goals.{After-from}

-- the script has the step of this finding
has_step : (c : After-from) → HasStep c.args.report.now.plan.script.steps c.from.result
has_step c =
    let report = c.args.report.now in
    let default : Finding = record { step = 0; rule = rule.Protocol; segment = 0 } in
    let within = findings_within report.granted report.plan.script report.findings c.findings-finding-items.ensures.exactly in
    let all = subst (All (IsFindingOf report.plan.script.steps)) (sym c.findings-finding-items.ensures.findings) within in
    subst (HasStep report.plan.script.steps) (sym c.from.ensures)
    (all c.loop-finding.finding-index default c.loop-finding-test.true)

pub step-step-requires-clause-from : goal.step-step-requires-clause-from
step-step-requires-clause-from c = (has_step c).0

pub step-step-requires-clause-to : goal.step-step-requires-clause-to
step-step-requires-clause-to c =
    subst (λ (p : PlanValue). c.from.result ≤ length p.script.steps) (sym c.plan-plan.ensures) (has_step c).1
