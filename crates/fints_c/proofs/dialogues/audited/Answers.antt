use Rattle.std.proofs.Common.{refl, inr}
use Rattle.fints_c.proofs.dialogues.audited.Goals as goal

pub returns-clause-refused : goal.returns-clause-refused
returns-clause-refused c =
    inr (c.in-Err.fault, c.in-Err.ensures.refused c.args.params.now c.args.dialogue.now c.read_capture.ensures c.read_recording.ensures, refl)
