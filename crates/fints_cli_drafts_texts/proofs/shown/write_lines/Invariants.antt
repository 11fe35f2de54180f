use Rattle.std.proofs.Common.{◌≡◌, ◌++◌, drop}
use Rattle.std.specs.List.{flat_map}
use Rattle.fints_cli_drafts_texts.specs.DraftText.{comment_line, lines}
use Rattle.fints_cli_drafts_texts.proofs.LineLemmas.{still}
use Rattle.fints_cli_drafts_texts.proofs.shown.write_lines.Given as goal

abbrev pub invariant-loop-b : goal.invariant-loop-b
invariant-loop-b l =
    l.text.items ++ still l.begins (lines (drop l.b-index l.bytes)) ≡ l.initial.text.items ++ flat_map comment_line (lines l.bytes)
