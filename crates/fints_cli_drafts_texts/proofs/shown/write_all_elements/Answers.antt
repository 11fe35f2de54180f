use Rattle.fints_cli_drafts_texts.proofs.ChainLemmas.{each_of}
use Rattle.fints_cli_drafts_texts.specs.DraftText.{element_shown}
use Rattle.fints_cli_drafts_texts.proofs.shown.write_all_elements.Goals as goal

pub returns : goal.returns
returns c =
    each_of c.as_slice.result.now c.args.elements.now element_shown (λ v. v.items) 2 c.args.text.now.items
    c.write_elements.new.text.items c.as_slice.ensures c.in_ok-write_elements.ensures
