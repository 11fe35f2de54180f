use Rattle.fints_syntax.proofs.LawLemmas.{cuts_segments, cuts_fault, cuts_few}
use Rattle.fints_syntax.proofs.laws.cuts.Goals as goal

pub returns : goal.returns
returns c = record { segments = cuts_segments; fault = cuts_fault; few = cuts_few }
