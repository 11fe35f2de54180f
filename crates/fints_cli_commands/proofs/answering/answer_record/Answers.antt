use Rattle.fints_cli_commands.proofs.answering.answer_record.Goals as goal

pub returns-clause-refused : goal.returns-clause-refused
returns-clause-refused c =
    rw c.refused_log.ensures (c.in-Err.ensures.refused c.args.contents.now.dialogue.items c.log_of-log.ensures)
