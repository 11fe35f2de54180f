use Rattle.std.proofs.Common.{◌≡◌, ◌+◌, drop, map, length}
use Rattle.fints_script_templates.specs.Weights.{total}
use Rattle.fints_script_templates.proofs.weights.spend_entries.Given as goal

abbrev pub invariant-loop-items : goal.invariant-loop-items
invariant-loop-items l = l.left + total length l.elements ≡ l.allowance + total length (map (λ v. v.items) (drop l.items-index l.items-items))
