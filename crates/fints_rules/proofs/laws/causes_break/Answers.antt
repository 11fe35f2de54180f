use Rattle.fints_rules.proofs.LawLemmas.{causes_break}
use Rattle.fints_rules.proofs.laws.causes_break.Goals as goal

pub returns : goal.returns
returns c = causes_break
