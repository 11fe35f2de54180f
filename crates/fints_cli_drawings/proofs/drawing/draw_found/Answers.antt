use Rattle.fints_cli_drawings.proofs.DrawLemmas.{drawn_on}
use Rattle.fints_cli_drawings.proofs.drawing.draw_found.Goals as goal

pub returns-clause-drawn : goal.returns-clause-drawn
returns-clause-drawn g c =
    drawn_on c.args.params.now c.args.orders.now c.args.script.now c.in_ok-inputs.inputs.orders
    c.in_ok-inputs.inputs.script c.in_ok-plan.plan c.in_ok-reply.reply.status
    c.in_ok-reply.reply.text.items
    c.in_ok-inputs.ensures.table c.in_ok-inputs.ensures.script c.in_ok-plan.ensures.closed
    c.in_ok-plan.ensures.script c.in_ok-plan.ensures.orders c.in_ok-reply.ensures
