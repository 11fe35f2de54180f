use Rattle.std.proofs.Common.{arith}
use Rattle.fints_cli_drawings.proofs.DrawLemmas.{picture_of}
use Rattle.fints_cli_drawings.proofs.drawing.draw_script.Goals as goal

pub picture-requires-clause-figures : goal.picture-requires-clause-figures
picture-requires-clause-figures c = rw c.as_slice.ensures.value c.in_ok-figures.ensures.long

pub picture-requires-clause-in_order : goal.picture-requires-clause-in_order
picture-requires-clause-in_order c i j d low high = absurd (omega (arith, high))

pub returns-clause-drawn : goal.returns-clause-drawn
returns-clause-drawn c =
    picture_of c.args.script.now c.in_ok-text.text.items c.in_ok-inputs.inputs.orders
    c.in_ok-inputs.inputs.script c.in_ok-plan.plan c.in_ok-figures.figures.items
    c.in_ok-inputs.ensures.table c.in_ok-inputs.ensures.script c.in_ok-plan.ensures.closed
    c.in_ok-plan.ensures.script c.in_ok-figures.ensures
    (rw c.as_slice.ensures.value at c.in_ok-text.ensures)
