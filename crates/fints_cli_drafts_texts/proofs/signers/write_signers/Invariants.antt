use Rattle.std.proofs.Common.{◌≡◌, ◌++◌, take}
use Rattle.std.specs.List.{flat_map}
use Rattle.fints_cli_drafts_texts.specs.DraftText.{signer_row}
use Rattle.fints_cli_drafts_texts.proofs.signers.write_signers.Given as goal

abbrev pub invariant-loop-signer : goal.invariant-loop-signer
invariant-loop-signer l =
    l.text.items ≡ l.initial.text.items ++ flat_map (signer_row l.fields) (take l.signer-index l.signers)
