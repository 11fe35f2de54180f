use Rattle.std.proofs.Common.{◌++◌, ◌∙◌, ap}
use Rattle.fints_cli_commands.specs.Notes.{secrets_note}
use Rattle.fints_cli_commands.proofs.Notes.{log_noted}
use Rattle.fints_cli_commands.proofs.answering.answer_draft.Goals as goal

pub returns-in-Ok-clause-drafted : goal.returns-in-Ok-clause-drafted
returns-in-Ok-clause-drafted c =
    let dialogue = c.args.contents.now.dialogue.items in
    let secret = c.in-Ok.field-0.has_secret in
    let said = c.in_ok-draft_note-in-Ok.ensures.note in
    let noted = log_noted c.args.hints dialogue said.0 c.log_of-log.result c.in-Ok.ensures.log c.log_of-log.ensures said.1 in
    record {
      log = noted.0;
      secret = secret;
      log_is = noted.1;
      draft = rw c.as_slice-table.ensures at (c.in-Ok.ensures.draft dialogue c.log_of-log.ensures);
      note_is = said.2 ∙ ap (λ front. front ++ secrets_note c.args.drafted secret) noted.2;
    }

pub returns-clause-refused : goal.returns-clause-refused
returns-clause-refused c =
    rw c.refused_log.ensures
    (rw c.as_slice-table.ensures at (c.in-Err.ensures.refused c.args.contents.now.dialogue.items c.log_of-log.ensures))
