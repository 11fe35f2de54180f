use Rattle.std.proofs.Common.{refl, inr}
use Rattle.fints_c.proofs.judging.judged_all.Goals as goal

pub returns-in-Err-clause-refused : goal.returns-in-Err-clause-refused
returns-in-Err-clause-refused c =
    inr (c.in-Err.fault, c.in-Err.ensures.refused c.args.params.now c.read_capture.ensures, refl)
