use Rattle.std.proofs.Common.{arith, ◌<◌, length}
use Rattle.fints_syntax.proofs.Readings.{segments-more}
use Rattle.fints_syntax.proofs.view.owned_segments.Goals as goal

pub loop-view-preserved : goal.loop-view-preserved
loop-view-preserved c =
    let here : c.loop-view.view-index < length c.args.views.now = omega arith in
    segments-more c.args.views.now c.loop-view.view-index c.view-item.result c.in_ok-to_owned.field-0
    c.loop-view.owned.items c.push.new.self.items here c.view-item.is c.loop-view.invariant
    c.in_ok-to_owned.ensures c.in_ok-push.ensures.items
