use Rattle.fints_syntax.proofs.LawLemmas.{one_capture}
use Rattle.fints_syntax.proofs.laws.one_capture.Goals as goal

pub returns : goal.returns
returns c = one_capture
