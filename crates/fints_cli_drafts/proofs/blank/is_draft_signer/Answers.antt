use Rattle.fints_cli_drafts.proofs.blank.is_draft_signer.Goals as goal

pub returns-then-is_signer_named : goal.returns-then-is_signer_named
returns-then-is_signer_named c = λ yes. (c.is_signer_named.ensures c.if-is_signer_named.true, c.has_blank_pin.ensures yes)
