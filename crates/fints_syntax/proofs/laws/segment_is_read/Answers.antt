use Rattle.fints_syntax.proofs.LawLemmas.{segment_is_read}
use Rattle.fints_syntax.proofs.laws.segment_is_read.Goals as goal

pub returns : goal.returns
returns c = segment_is_read
