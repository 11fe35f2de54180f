use Rattle.fints_wire.proofs.LawLemmas.{accounts_are_put_in}
use Rattle.fints_wire.proofs.laws.accounts_are_put_in.Goals as goal

pub returns : goal.returns
returns c = accounts_are_put_in
