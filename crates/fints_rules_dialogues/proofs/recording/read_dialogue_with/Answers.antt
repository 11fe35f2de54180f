use Rattle.std.proofs.Common.{[], None}
use Rattle.std.proofs.lemmas.Result.{IfOk-weaker}
use Rattle.fints_rules_dialogues.proofs.Turns.{each_exchange}
use Rattle.fints_rules_dialogues.proofs.recording.read_dialogue_with.Goals as goal

pub returns-clause-each : goal.returns-clause-each
returns-clause-each g c =
    IfOk-weaker c.exchanges.result _ _ (λ v h. each_exchange None c.in_ok-recording.recording v.items [] h) c.exchanges.ensures.exchanges
