use Rattle.std.proofs.Common.{◌≡◌, ◌+◌, drop}
use Rattle.fints_script_templates.specs.Weights.{total, item_count}
use Rattle.fints_script_templates.proofs.weights.spend_items.Given as goal

abbrev pub invariant-loop-item : goal.invariant-loop-item
invariant-loop-item l = l.left + total (item_count l.figures) l.items ≡ l.allowance + total (item_count l.figures) (drop l.item-index l.items)
