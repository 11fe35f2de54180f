use Rattle.fints_cli_commands.proofs.answering.answer_judge.Goals as goal

pub returns-in-Err-clause-refused : goal.returns-in-Err-clause-refused
returns-in-Err-clause-refused c =
    rw (c.as_slice-2.ensures, c.as_slice-3.ensures.value) at c.in-Err.ensures.refused
