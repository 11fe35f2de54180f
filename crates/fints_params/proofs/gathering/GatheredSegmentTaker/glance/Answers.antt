use Rattle.fints_syntax.specs.Owned.{segment_of}
use Rattle.fints_params.proofs.Glances.{nothing_glanced, order_glanced}
use Rattle.fints_params.proofs.gathering.GatheredSegmentTaker.glance.Goals as goal

pub returns-in-Nothing : goal.returns-in-Nothing
returns-in-Nothing c =
    nothing_glanced (segment_of c.args.segment.now) c.args.self.now c.in-Nothing.ensures.0 c.in-Nothing.ensures.1

pub returns-in_ok-push-in-Order : goal.returns-in_ok-push-in-Order
returns-in_ok-push-in-Order c =
    order_glanced (segment_of c.args.segment.now) c.args.self.now c.push.new.self c.in-Order.row
    c.in-Order.ensures.0 c.in-Order.ensures.1 c.in_ok-push-in-Order.ensures.items
