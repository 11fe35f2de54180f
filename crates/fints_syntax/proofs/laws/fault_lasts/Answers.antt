use Rattle.fints_syntax.proofs.LawLemmas.{fault_lasts}
use Rattle.fints_syntax.proofs.laws.fault_lasts.Goals as goal

pub returns : goal.returns
returns c = fault_lasts
