use Rattle.fints_cli_commands.proofs.Notes.{log_noted}
use Rattle.fints_cli_commands.proofs.answering.answer_audit_own.Goals as goal

pub returns-clause-refused : goal.returns-clause-refused
returns-clause-refused c =
    rw c.refused_log.ensures
    (rw c.as_slice.ensures at (c.in-Err.ensures.refused c.args.contents.now.dialogue.items c.log_of-log.ensures))

pub returns-in-Ok-clause-note : goal.returns-in-Ok-clause-note
returns-in-Ok-clause-note c =
    log_noted c.args.hints c.args.contents.now.dialogue.items _ c.log_of-log.result c.in-Ok.ensures.log c.log_of-log.ensures
    c.in_ok-note_of-in-Ok.ensures.note
