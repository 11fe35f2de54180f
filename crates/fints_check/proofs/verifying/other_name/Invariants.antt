use Rattle.std.proofs.Common.{◌≡◌, ◌≤◌, length, take}
use Rattle.fints_check.specs.Certificates.{line_names, step_names}
use Rattle.fints_check.proofs.verifying.other_name.Given as goal

-- there is a step for each line so far, with its name
abbrev pub invariant-loop-i : goal.invariant-loop-i
invariant-loop-i l =
    (l.i ≤ length l.plan.script.steps) × (line_names (take l.i l.lines) ≡ step_names (take l.i l.plan.script.steps))
