use Rattle.std.proofs.Common.{take}
use Rattle.fints_c.specs.Calls.{AreWithin}
use Rattle.fints_c.proofs.inputs.within.Given as goal

abbrev pub invariant-loop-input : goal.invariant-loop-input
invariant-loop-input l = AreWithin (take l.input-index l.inputs)
