use Rattle.fints_wire.proofs.LawLemmas.{none_is_longer_most, none_is_longer_short}
use Rattle.fints_wire.proofs.laws.none_is_longer.Goals as goal

pub returns-clause-most : goal.returns-clause-most
returns-clause-most c = none_is_longer_most

pub returns-clause-short : goal.returns-clause-short
returns-clause-short c = none_is_longer_short
