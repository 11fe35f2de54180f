use Rattle.std.proofs.Common.{◌≡◌, ◌+◌, drop, map}
use Rattle.fints_script_templates.specs.Weights.{total, element_weight}
use Rattle.fints_script_templates.proofs.weights.spend_segment.Given as goal

abbrev pub invariant-loop-items : goal.invariant-loop-items
invariant-loop-items l =
    l.left + 15 + total (element_weight l.figures) l.elements ≡ l.allowance + total (element_weight l.figures)
    (map (λ v. v.items) (drop l.items-index l.items-items))
