use Rattle.std.proofs.Common.{arith, ◌<◌, length}
use Rattle.fints_cli_texts.proofs.ShowMessageLemmas.{one_more_line}
use Rattle.fints_cli_texts.proofs.showing_message.write_lines.Goals as goal

pub loop-view-preserved : goal.loop-view-preserved
loop-view-preserved c =
    let here : c.loop-view.view-index < length c.args.views.now = omega arith in
    one_more_line c.args.blanks.now c.args.text.now.items c.loop-view.text.items c.write_line.new.text.items
    c.args.views.now c.loop-view.view-index c.view-item.result here c.view-item.is c.loop-view.invariant
    c.in_ok-write_line.ensures
