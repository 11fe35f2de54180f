use Rattle.fints_cli_scripts.proofs.RunLemmas.{tells_more}
use Rattle.fints_cli_scripts.proofs.running.all_messages.Goals as goal

pub loop-visit-preserved : goal.loop-visit-preserved
loop-visit-preserved c =
    tells_more c.args.plan.now.script c.args.values.now c.args.visits.now c.loop-visit.visit-index _
    c.loop-visit.text.items c.write_message.new.text.items c.in_ok-sent.sent c.loop-visit-test.true
    c.in_ok-sent.ensures c.in_ok-write_message.ensures
    c.loop-visit.invariant
