use Rattle.fints_check.proofs.LawLemmas.{greatest_closes}
use Rattle.fints_check.proofs.laws.greatest_closes.Goals as goal

pub returns : goal.returns
returns c = greatest_closes
