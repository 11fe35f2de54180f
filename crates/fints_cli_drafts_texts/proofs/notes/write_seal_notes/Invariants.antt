use Rattle.std.proofs.Common.{◌≡◌, ◌++◌, take}
use Rattle.std.specs.List.{flat_map}
use Rattle.fints_cli_drafts_texts.specs.DraftText.{seal_note}
use Rattle.fints_cli_drafts_texts.proofs.notes.write_seal_notes.Given as goal

abbrev pub invariant-loop-note : goal.invariant-loop-note
invariant-loop-note l =
    l.text.items ≡ l.initial.text.items ++ flat_map seal_note (take l.note-index l.seals)
