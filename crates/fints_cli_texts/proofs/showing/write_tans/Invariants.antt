use Rattle.std.proofs.Common.{◌≡◌, ◌++◌, take}
use Rattle.std.specs.List.{flat_map}
use Rattle.fints_cli_texts.specs.Show.{tan_line}
use Rattle.fints_cli_texts.proofs.showing.write_tans.Given as goal

abbrev pub invariant-loop-row : goal.invariant-loop-row
invariant-loop-row l =
    (l.rows ≡ l.fn.rows)
    × (l.text.items ≡ l.initial.text.items ++ flat_map tan_line (take l.row-index l.rows))
