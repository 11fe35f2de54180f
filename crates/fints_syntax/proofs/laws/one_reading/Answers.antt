use Rattle.fints_syntax.proofs.LawLemmas.{one_reading}
use Rattle.fints_syntax.proofs.laws.one_reading.Goals as goal

pub returns : goal.returns
returns c = one_reading
