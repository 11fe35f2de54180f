use Rattle.fints_cli_drafts_texts.proofs.ChainLemmas.{join_of}
use Rattle.fints_cli_drafts_texts.specs.DraftText.{comma, element_text}
use Rattle.fints_cli_drafts_texts.proofs.elements.write_all_elements.Goals as goal

pub returns : goal.returns
returns c =
    join_of c.as_slice.result.now c.args.elements.now (element_text c.args.fields.now) (λ v. v.items) comma
    c.args.text.now.items c.write_joined_elements.new.text.items c.as_slice.ensures
    c.in_ok-write_joined_elements.ensures
