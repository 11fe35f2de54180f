use Rattle.fints_cli_commands.proofs.Notes.{log_read_of}
use Rattle.fints_cli_commands.proofs.answering.log_of.Goals as goal

pub returns : goal.returns
returns c =
    rw c.as_slice.ensures.value at (log_read_of _ c.read_log.result c.read_log.ensures.log c.read_log.ensures.refused)
