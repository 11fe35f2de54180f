use Rattle.fints_rules_dialogues.proofs.Turns.{answer_refused}
use Rattle.fints_rules_dialogues.proofs.reading.read_answer.Goals as goal

pub returns-in_default : goal.returns-in_default
returns-in_default c =
    let refused = answer_refused c.args.sent.now c.in-Err.fault c.in-Err.ensures.refused c.in_default.not-Memory in
    record { answer = tt; refused = refused }
