use Rattle.fints_wire.proofs.LawLemmas.{extremes_are_admitted_longest, extremes_are_admitted_shortest}
use Rattle.fints_wire.proofs.laws.extremes_are_admitted.Goals as goal

pub returns-clause-longest : goal.returns-clause-longest
returns-clause-longest c = extremes_are_admitted_longest

pub returns-clause-shortest : goal.returns-clause-shortest
returns-clause-shortest c = extremes_are_admitted_shortest
