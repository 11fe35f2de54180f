use Rattle.fints_rules_dialogues.proofs.Turns.{begins_one, first_of_all}
use Rattle.fints_rules_dialogues.proofs.reading.read_exchange.Goals as goal

pub returns-clause-exchange : goal.returns-clause-exchange
returns-clause-exchange g c =
    begins_one _ c.args.messages.now _ c.split_at.result.1.now _ c.in_ok-answer.answer c.begins_after-begins.result
    (first_of_all c.args.messages.now _ c.split_at.result.1.now c.requires.some c.split_at.ensures.back)
    c.in_ok-message.ensures.client c.in_ok-answer.ensures.answer c.begins_after-begins.ensures
