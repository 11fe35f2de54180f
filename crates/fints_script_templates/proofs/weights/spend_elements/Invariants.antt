use Rattle.std.proofs.Common.{◌≡◌, ◌+◌, drop, map}
use Rattle.fints_script_templates.specs.Weights.{total, element_count}
use Rattle.fints_script_templates.proofs.weights.spend_elements.Given as goal

abbrev pub invariant-loop-items : goal.invariant-loop-items
invariant-loop-items l =
    l.left + total (element_count l.figures) l.elements ≡ l.allowance + total (element_count l.figures)
    (map (λ v. v.items) (drop l.items-index l.items-items))
