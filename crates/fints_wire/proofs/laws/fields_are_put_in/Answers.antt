use Rattle.fints_wire.proofs.LawLemmas.{fields_are_put_in}
use Rattle.fints_wire.proofs.laws.fields_are_put_in.Goals as goal

pub returns : goal.returns
returns c = fields_are_put_in
