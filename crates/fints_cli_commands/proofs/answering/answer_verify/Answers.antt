use Rattle.fints_cli_commands.proofs.Reading.{of_refused}
use Rattle.fints_cli_commands.proofs.answering.answer_verify.Goals as goal

pub returns-in_err-reply-clause-refused : goal.returns-in_err-reply-clause-refused
returns-in_err-reply-clause-refused c =
    of_refused c.from_residual.result _ _ c.from_residual.ensures.1
    (rw (c.as_slice.ensures, c.as_slice-2.ensures.value, c.as_slice-3.ensures.value) at c.in_err-reply.ensures.refused)
