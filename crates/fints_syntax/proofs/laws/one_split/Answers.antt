use Rattle.fints_syntax.proofs.LawLemmas.{one_split_split, one_split_no_fault, one_split_capture}
use Rattle.fints_syntax.proofs.laws.one_split.Goals as goal

pub returns : goal.returns
returns c = record { split = one_split_split; no_fault = one_split_no_fault; capture = one_split_capture }
