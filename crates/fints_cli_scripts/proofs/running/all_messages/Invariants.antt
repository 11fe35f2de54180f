use Rattle.std.proofs.Common.{take}
use Rattle.fints_cli_scripts.specs.RunVisits.{TellsVisits}
use Rattle.fints_cli_scripts.proofs.running.all_messages.Given as goal

abbrev pub invariant-loop-visit : goal.invariant-loop-visit
invariant-loop-visit l = TellsVisits l.plan.script l.values (take l.visit-index l.visits) l.text.items
