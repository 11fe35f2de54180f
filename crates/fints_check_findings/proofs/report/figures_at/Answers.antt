use Rattle.std.proofs.Common.{rules}
use Rattle.fints_check_findings.proofs.report.figures_at.Goals as goal

pub returns-clause-number : goal.returns-clause-number
returns-clause-number c = search rules

pub returns-clause-figures : goal.returns-clause-figures
returns-clause-figures c = search rules
