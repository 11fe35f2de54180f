use Rattle.std.proofs.Common.{subst}
use Rattle.fints_wire.specs.Runs.{AreSent}
use Rattle.fints_wire.proofs.Running.{run_of}
use Rattle.fints_wire.proofs.RunLawLemmas.{sent_are_read}
use Rattle.fints_script.proofs.LawLemmas.{sound_of}
use Rattle.fints_wire.proofs.dialogue.run.Goals as goal

pub returns-clause-messages : goal.returns-clause-messages
returns-clause-messages c =
    let are = subst (λ vs. AreSent c.args.plan.now.script c.args.values.now vs c.in_ok-sent.sent.items) c.as_slice.ensures.value c.in_ok-sent.ensures in
    sent_are_read c.args.plan.now.script c.args.values.now c.args.answers.now c.in_ok-sent.sent.items (sound_of c.in_ok-visits.ensures.read) c.requires
    (run_of c.args.plan.now.script c.args.values.now c.args.answers.now c.in_ok-visits.visits.items c.in_ok-sent.sent.items c.in_ok-visits.ensures.visits are)
