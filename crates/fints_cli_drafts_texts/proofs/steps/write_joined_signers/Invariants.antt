use Rattle.std.proofs.Common.{◌≡◌, ◌++◌, take}
use Rattle.std.specs.List.{flat_map}
use Rattle.fints_cli_drafts_texts.specs.DraftText.{comma, signer_string}
use Rattle.fints_cli_drafts_texts.proofs.steps.write_joined_signers.Given as goal

abbrev pub invariant-loop-place : goal.invariant-loop-place
invariant-loop-place l =
    l.text.items ≡ l.initial.text.items ++ flat_map (λ v. comma ++ signer_string l.signers v) (take l.place-index l.rest)
