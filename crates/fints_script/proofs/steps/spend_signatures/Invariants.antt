use Rattle.std.proofs.Common.{◌≡◌, ◌+◌, drop}
use Rattle.fints_script_templates.specs.Weights.{total}
use Rattle.fints_script.specs.Steps.{signature_weight}
use Rattle.fints_script.proofs.steps.spend_signatures.Given as goal

abbrev pub invariant-loop-place : goal.invariant-loop-place
invariant-loop-place l =
    l.left + total (signature_weight l.around.figures.now l.around.signers.now) l.places ≡ l.allowance + total
    (signature_weight l.around.figures.now l.around.signers.now) (drop l.place-index l.places)
