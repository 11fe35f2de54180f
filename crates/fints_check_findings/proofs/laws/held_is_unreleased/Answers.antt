use Rattle.fints_check_findings.proofs.LawLemmas.{held_is_unreleased}
use Rattle.fints_check_findings.proofs.laws.held_is_unreleased.Goals as goal

pub returns : goal.returns
returns c = held_is_unreleased
