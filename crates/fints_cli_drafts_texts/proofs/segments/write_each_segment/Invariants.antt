use Rattle.std.proofs.Common.{◌≡◌, ◌++◌, take}
use Rattle.fints_cli_drafts_texts.specs.DraftText.{each_from, segment_text}
use Rattle.fints_cli_drafts_texts.proofs.segments.write_each_segment.Given as goal

abbrev pub invariant-loop-i : goal.invariant-loop-i
invariant-loop-i l =
    l.text.items ≡ l.initial.text.items ++ each_from (segment_text l.fields l.notes) 0 (take l.i l.segments)
