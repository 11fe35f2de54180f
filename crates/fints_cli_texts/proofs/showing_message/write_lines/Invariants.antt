use Rattle.std.proofs.Common.{◌≡◌, ◌++◌, take}
use Rattle.std.specs.List.{flat_map}
use Rattle.fints_syntax.specs.Owned.{segments_of}
use Rattle.fints_cli_texts.specs.ShowMessage.{segment_line}
use Rattle.fints_cli_texts.proofs.showing_message.write_lines.Given as goal

abbrev pub invariant-loop-view : goal.invariant-loop-view
invariant-loop-view l =
    l.text.items ≡ l.initial.text.items ++ flat_map (segment_line l.blanks) (segments_of (take l.view-index l.views))
