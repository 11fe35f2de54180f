use Rattle.std.proofs.Common.{◌≡◌, ◌++◌, take}
use Rattle.std.specs.List.{flat_map}
use Rattle.fints_cli_drawings.specs.Picture.{broken_text}
use Rattle.fints_cli_drawings.proofs.nodes.write_found.Given as goal

abbrev pub invariant-loop-finding : goal.invariant-loop-finding
invariant-loop-finding l =
    (l.found ≡ l.fn.found)
    × (l.text.items ≡ l.initial.text.items ++ flat_map broken_text (take l.finding-index l.found))
