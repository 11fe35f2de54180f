use Rattle.fints_cli_commands.proofs.Reading.{of_refused}
use Rattle.fints_cli_commands.proofs.answering.answer_show.Goals as goal

pub returns-in_err-text-clause-refused : goal.returns-in_err-text-clause-refused
returns-in_err-text-clause-refused c =
    of_refused c.from_residual.result _ _ c.from_residual.ensures.1 c.in_err-text.ensures.refused
