use Rattle.std.proofs.Common.{◌≡◌, ◌+◌, drop}
use Rattle.fints_script.specs.Plans.{faults_in_steps}
use Rattle.fints_script.proofs.PlanLemmas.{faults_from}
use Rattle.fints_script.proofs.opens.first_fault.Given as goal

abbrev pub invariant-loop-i : goal.invariant-loop-i
invariant-loop-i l = faults_in_steps l.fields l.orders l.steps ≡ faults_from l.fields l.orders (l.i + 1) (drop l.i l.steps)
