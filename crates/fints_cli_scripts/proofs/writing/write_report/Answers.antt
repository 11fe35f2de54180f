use Rattle.std.proofs.Common.{List, All, ap, sym, subst}
use Rattle.fints_script.specs.Plans.{PlanValue}
use Rattle.fints_script.specs.Steps.{StepValue}
use Rattle.fints_cli_scripts.specs.StepNames.{IsFindingOf}
use Rattle.fints_cli_scripts.proofs.StepLemmas.{findings_within}
use Rattle.fints_cli_scripts.proofs.writing.write_report.Goals as goal

pub write_findings-requires : goal.write_findings-requires
write_findings-requires c =
    let same = sym c.plan.ensures in
    let within = findings_within c.args.report.now.granted c.args.report.now.plan.script c.args.report.now.findings c.findings.ensures.exactly in
    subst (λ (steps : List StepValue). All (IsFindingOf steps) c.findings.result.now) (ap (λ (p : PlanValue). p.script.steps) same)
    (subst (All (IsFindingOf c.args.report.now.plan.script.steps)) (sym c.findings.ensures.findings) within)
