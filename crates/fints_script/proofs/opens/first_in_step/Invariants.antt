use Rattle.std.proofs.Common.{◌≡◌, ◌+◌, drop}
use Rattle.fints_script.specs.Plans.{faults_in_segments, faults_in_step}
use Rattle.fints_script.proofs.opens.first_in_step.Given as goal

abbrev pub invariant-loop-i : goal.invariant-loop-i
invariant-loop-i l =
    faults_in_step l.fields l.orders l.n l.step
    ≡ faults_in_segments l.fields l.orders l.n (l.first + l.i) (drop l.i l.templates)
