use Rattle.fints_wire.proofs.RunLawLemmas.{each_is_last}
use Rattle.fints_wire.proofs.run_laws.each_is_last.Goals as goal

pub returns : goal.returns
returns c = each_is_last
