use Rattle.fints_params.proofs.BothRead.{codes_are}
use Rattle.fints_params.proofs.feedback.feedback_codes.Goals as goal

pub returns-clause-codes : goal.returns-clause-codes
returns-clause-codes c =
    let e = c.in_ok-found.ensures.ok in
    codes_are c.args.message.now e.0 c.in_ok-found.found.codes.items e.1 e.2
