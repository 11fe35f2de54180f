use Rattle.fints_syntax.proofs.LawLemmas.{begun_goes_on_goes_on, begun_goes_on_split}
use Rattle.fints_syntax.proofs.laws.begun_goes_on.Goals as goal

pub returns : goal.returns
returns c = record { goes_on = begun_goes_on_goes_on; split = begun_goes_on_split }
