use Rattle.std.proofs.Common.{AllPairs, sym, subst}
use Rattle.fints_check_findings.specs.Findings.{IsBefore}
use Rattle.fints_cli_drawings.proofs.DrawLemmas.{drawn_by}
use Rattle.fints_cli_drawings.proofs.drawing.draw_report.Goals as goal

pub picture-requires-clause-figures : goal.picture-requires-clause-figures
picture-requires-clause-figures c = rw c.as_slice.ensures.value c.in_ok-figures.ensures.long

pub picture-requires-clause-in_order : goal.picture-requires-clause-in_order
picture-requires-clause-in_order c =
    subst (AllPairs IsBefore) (sym c.findings-findings.ensures.findings) c.findings-findings.ensures.exactly.in_order

pub returns : goal.returns
returns c =
    drawn_by c.args.report.now c.plan-plan.result.now c.in_ok-figures.figures.items c.findings-findings.result.now
    c.report_status.result c.in_ok-text.text.items c.plan-plan.ensures c.findings-findings.ensures.findings
    c.findings-findings.ensures.exactly c.findings-findings.ensures.permitted c.in_ok-figures.ensures
    (rw c.as_slice.ensures.value at c.in_ok-text.ensures) c.report_status.ensures
