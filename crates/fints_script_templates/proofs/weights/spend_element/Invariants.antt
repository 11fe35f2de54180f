use Rattle.std.proofs.Common.{◌≡◌, ◌+◌, drop}
use Rattle.fints_script_templates.specs.Weights.{total, item_weight}
use Rattle.fints_script_templates.proofs.weights.spend_element.Given as goal

abbrev pub invariant-loop-item : goal.invariant-loop-item
invariant-loop-item l = l.left + total (item_weight l.figures) l.items ≡ l.allowance + total (item_weight l.figures) (drop l.item-index l.items)
