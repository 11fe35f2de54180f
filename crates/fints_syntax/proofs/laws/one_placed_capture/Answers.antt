use Rattle.fints_syntax.proofs.LawLemmas.{one_placed_capture}
use Rattle.fints_syntax.proofs.laws.one_placed_capture.Goals as goal

pub returns : goal.returns
returns c = one_placed_capture
