use Rattle.std.proofs.Common.{rules}
use Rattle.fints_check_findings.proofs.templates.template_breaks.Goals as goal

pub returns-else-is_empty : goal.returns-else-is_empty
returns-else-is_empty c = search rules
