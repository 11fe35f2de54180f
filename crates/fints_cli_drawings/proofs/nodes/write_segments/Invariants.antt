use Rattle.std.proofs.Common.{◌≡◌, ◌++◌, take}
use Rattle.std.specs.List.{flat_map}
use Rattle.fints_cli_drawings.specs.Picture.{segment_text}
use Rattle.fints_cli_drawings.proofs.nodes.write_segments.Given as goal

abbrev pub invariant-loop-template : goal.invariant-loop-template
invariant-loop-template l =
    (l.templates ≡ l.fn.templates)
    × (l.text.items ≡ l.initial.text.items ++ flat_map segment_text (take l.template-index l.templates))
