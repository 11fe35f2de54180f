use Rattle.std.proofs.Common.{◌≡◌, ◌+◌, ◌++◌, drop}
use Rattle.fints_cli_json.specs.Placed.{placed_in}
use Rattle.fints_cli_json.proofs.placed.placed_in.Given as goal

abbrev pub invariant-loop-i : goal.invariant-loop-i
invariant-loop-i l = l.out.items ++ placed_in (l.i + 1) (drop l.i l.audited) ≡ placed_in 1 l.audited
