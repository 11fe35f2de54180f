use Rattle.fints_check_findings.proofs.LawLemmas.{templates_decide}
use Rattle.fints_check_findings.proofs.laws.templates_decide.Goals as goal

pub returns : goal.returns
returns c = templates_decide
