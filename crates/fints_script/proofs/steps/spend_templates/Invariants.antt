use Rattle.std.proofs.Common.{◌≡◌, ◌+◌, drop}
use Rattle.fints_script_templates.specs.Weights.{total, segment_weight}
use Rattle.fints_script.proofs.steps.spend_templates.Given as goal

abbrev pub invariant-loop-template : goal.invariant-loop-template
invariant-loop-template l =
    l.left + total (λ t. segment_weight l.figures t.elements) l.templates ≡ l.allowance + total
    (λ t. segment_weight l.figures t.elements) (drop l.template-index l.templates)
