use Rattle.std.proofs.Common.{◌≡◌, ◌++◌, take}
use Rattle.std.specs.List.{flat_map}
use Rattle.fints_cli_texts.specs.Show.{order_line}
use Rattle.fints_cli_texts.proofs.showing.write_orders.Given as goal

abbrev pub invariant-loop-row : goal.invariant-loop-row
invariant-loop-row l =
    (l.rows ≡ l.fn.rows)
    × (l.text.items ≡ l.initial.text.items ++ flat_map order_line (take l.row-index l.rows))
