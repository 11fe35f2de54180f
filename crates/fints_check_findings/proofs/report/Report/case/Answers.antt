use Rattle.fints_check_findings.proofs.report.Report.case.Goals as goal

pub returns-clause-shows : goal.returns-clause-shows
returns-clause-shows c = λ f at. c.in_ok-values.ensures.shown f c.in_ok-answers.answers.items at (c.in_ok-answers.ensures f at)
