use Rattle.fints_syntax.proofs.LawLemmas.{any_cutting_segments, any_cutting_fault, any_cutting_ended}
use Rattle.fints_syntax.proofs.laws.any_cutting.Goals as goal

pub returns : goal.returns
returns c = record { segments = any_cutting_segments; fault = any_cutting_fault; ended = any_cutting_ended }
