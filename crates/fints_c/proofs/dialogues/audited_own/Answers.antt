use Rattle.std.proofs.Common.{refl, inr}
use Rattle.fints_c.proofs.dialogues.audited_own.Goals as goal

pub returns-clause-refused : goal.returns-clause-refused
returns-clause-refused c =
    inr (c.in-Err.fault, c.in-Err.ensures.refused c.args.dialogue.now c.read_recording.ensures, refl)
