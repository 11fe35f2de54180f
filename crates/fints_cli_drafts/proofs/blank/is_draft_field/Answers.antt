use Rattle.fints_cli_drafts.proofs.blank.is_draft_field.Goals as goal

pub returns-then-is_field_name : goal.returns-then-is_field_name
returns-then-is_field_name c =
    λ yes. (rw c.as_bytes.ensures.text at (c.is_field_name.ensures c.if-is_field_name.true), c.is_draft_class.ensures yes)
