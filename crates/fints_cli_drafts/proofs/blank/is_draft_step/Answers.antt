use Rattle.fints_cli_drafts.specs.Drafts.{IsDraftStep}
use Rattle.fints_cli_drafts.proofs.blank.is_draft_step.Goals as goal

pub returns-then-is_step_named : goal.returns-then-is_step_named
unfolding IsDraftStep
returns-then-is_step_named c =
    λ yes. (c.is_step_named.ensures c.if-is_step_named.true, rw c.templates.ensures at (c.are_blank_new_pins.ensures yes))
