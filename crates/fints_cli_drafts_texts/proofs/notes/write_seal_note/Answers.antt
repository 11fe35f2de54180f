use Rattle.std.proofs.Common.{◌++◌}
use Rattle.std.specs.Prelude.{codes, decimal}
use Rattle.fints_cli_drafts_texts.proofs.ChainLemmas.{more}
use Rattle.fints_cli_drafts_texts.specs.DraftText.{seal_note}
use Rattle.fints_cli_drafts_texts.proofs.notes.write_seal_note.Goals as goal

pub returns : goal.returns
unfolding seal_note
returns c =
    let old = c.args.text.now.items in
    more old (codes "# note: element " ++ decimal c.args.note.element ++ codes " of HNVSK is another one in message " ++ decimal c.args.note.message) (codes "\n") c.write_number-2.new.text.items c.push.new.self.items (more old (codes "# note: element " ++ decimal c.args.note.element ++ codes " of HNVSK is another one in message ") (decimal c.args.note.message) c.extend_from_slice-2.new.self.items c.write_number-2.new.text.items (more old (codes "# note: element " ++ decimal c.args.note.element) (codes " of HNVSK is another one in message ") c.write_number.new.text.items c.extend_from_slice-2.new.self.items (more old (codes "# note: element ") (decimal c.args.note.element) c.extend_from_slice.new.self.items c.write_number.new.text.items (c.in_ok-extend_from_slice.ensures.items) c.in_ok-write_number.ensures) c.in_ok-extend_from_slice-2.ensures.items) c.in_ok-write_number-2.ensures) c.in_ok-push.ensures.items
