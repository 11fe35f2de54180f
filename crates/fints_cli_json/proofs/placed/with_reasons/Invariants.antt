use Rattle.std.proofs.Common.{◌≡◌, map, take}
use Rattle.fints_cli_json.specs.Placed.{AreWithoutCase}
use Rattle.fints_cli_json.proofs.placed.with_reasons.Given as goal

abbrev pub invariant-loop-i : goal.invariant-loop-i
invariant-loop-i g l =
    (l.placed ≡ l.fn.placed) × (map (λ f. f.placed) l.founds.items ≡ take l.i l.placed)
    × AreWithoutCase l.founds.items
