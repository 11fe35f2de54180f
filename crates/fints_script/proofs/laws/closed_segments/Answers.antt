use Rattle.fints_script.proofs.LawLemmas.{closed_segments}
use Rattle.fints_script.proofs.laws.closed_segments.Goals as goal

pub returns : goal.returns
returns c = closed_segments
