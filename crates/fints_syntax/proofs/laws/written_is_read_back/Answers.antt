use Rattle.fints_syntax.proofs.LawLemmas.{written_is_read_back}
use Rattle.fints_syntax.proofs.laws.written_is_read_back.Goals as goal

pub returns : goal.returns
returns c = written_is_read_back
