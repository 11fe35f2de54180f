use Rattle.std.proofs.Common.{sym, subst}
use Rattle.fints_params.specs.Captures.{IsReadOf}
use Rattle.fints_cli_scripts.specs.Told.{IsRefused}
use Rattle.fints_cli_scripts.proofs.Refusals.{params_refused}
use Rattle.fints_cli_drawings.proofs.DrawLemmas.{drawn_low}
use Rattle.fints_cli_drawings.proofs.drawing.draw_read.Goals as goal

pub returns-in-Err-clause-refused : goal.returns-in-Err-clause-refused
returns-in-Err-clause-refused g c =
    λ capture read. subst (IsRefused capture c.args.orders.now c.args.script.now) (sym c.from.ensures)
    (params_refused capture c.args.orders.now c.args.script.now c.in-Err.fault (subst (IsReadOf capture) c.in-Err.is read))

pub returns-clause-status : goal.returns-clause-status
returns-clause-status g c =
    drawn_low c.in-Ok.params c.args.orders.now c.args.script.now c.in_ok-reply.reply.status
    c.in_ok-reply.reply.text.items c.in_ok-reply.ensures.drawn
