use Rattle.fints_check.proofs.LawLemmas.{greatest_are_readable}
use Rattle.fints_check.proofs.laws.greatest_are_readable.Goals as goal

pub returns : goal.returns
returns c = greatest_are_readable
