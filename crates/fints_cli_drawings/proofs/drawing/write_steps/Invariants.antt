use Rattle.std.proofs.Common.{◌≡◌, ◌++◌, take}
use Rattle.fints_cli_drawings.specs.Picture.{steps_text}
use Rattle.fints_cli_drawings.proofs.drawing.write_steps.Given as goal

-- the lines of the steps so far
abbrev pub invariant-loop-i : goal.invariant-loop-i
invariant-loop-i l =
    l.text.items
    ≡ l.initial.text.items ++ steps_text l.plan.script.steps 1 (take l.i l.plan.script.steps) l.figures l.findings
