use Rattle.fints_wire.proofs.Running.{Running}
use Rattle.fints_wire.proofs.dialogue.visits.Given as goal

abbrev pub invariant-loop-answer : goal.invariant-loop-answer
invariant-loop-answer l = Running l.plan.script l.answers l.answer-index l.here l.visits.items
