use Rattle.fints_cli_drafts.proofs.blank.keeps_secrets.Goals as goal

pub returns : goal.returns
returns c = λ yes. record {
  fields = rw c.fields.ensures at (c.are_draft_fields.ensures c.if-not-are_draft_fields.false);
  signers = rw c.signers.ensures at (c.are_draft_signers.ensures c.if-not-are_draft_signers.false);
  steps = rw c.steps.ensures.steps at (c.are_draft_steps.ensures yes);
}
