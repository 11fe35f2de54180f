use Rattle.std.proofs.Common.{take}
use Rattle.fints_wire.specs.Runs.{AreSent}
use Rattle.fints_wire.proofs.dialogue.messages.Given as goal

abbrev pub invariant-loop-visit : goal.invariant-loop-visit
invariant-loop-visit l = AreSent l.plan.script l.values (take l.visit-index l.visits) l.sent.items
