use Rattle.fints_check_findings.proofs.LawLemmas.{unreleased_is_real}
use Rattle.fints_check_findings.proofs.laws.unreleased_is_real.Goals as goal

pub returns : goal.returns
returns c = unreleased_is_real
