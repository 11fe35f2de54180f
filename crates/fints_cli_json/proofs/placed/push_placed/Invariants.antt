use Rattle.std.proofs.Common.{◌≡◌, ◌++◌, map, take}
use Rattle.fints_cli_json.specs.Placed.{here}
use Rattle.fints_cli_json.proofs.placed.push_placed.Given as goal

abbrev pub invariant-loop-one : goal.invariant-loop-one
invariant-loop-one l =
    (l.place ≡ l.fn.place) × (l.broken ≡ l.fn.broken) × (l.out.items ≡ l.initial.out.items ++ map (here l.place) (take l.one-index l.broken))
