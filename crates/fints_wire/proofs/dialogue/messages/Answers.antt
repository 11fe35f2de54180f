use Rattle.fints_wire.proofs.Running.{messages_more}
use Rattle.fints_wire.proofs.dialogue.messages.Goals as goal

pub loop-visit-preserved : goal.loop-visit-preserved
loop-visit-preserved c =
    messages_more c.args.plan.now.script c.args.values.now c.args.visits.now c.loop-visit.visit-index _
    c.loop-visit.sent.items c.push.new.self.items c.in_ok-message.field-0 c.loop-visit-test.true
    c.in_ok-message.ensures c.in_ok-push.ensures.items
    c.loop-visit.invariant
