use Rattle.std.proofs.Common.{◌≡◌, ◌++◌, take}
use Rattle.std.specs.List.{flat_map}
use Rattle.fints_cli_drafts_texts.specs.DraftText.{branch_text, comma}
use Rattle.fints_cli_drafts_texts.proofs.targets.write_joined_branches.Given as goal

abbrev pub invariant-loop-branch : goal.invariant-loop-branch
invariant-loop-branch l =
    l.text.items ≡ l.initial.text.items ++ flat_map (λ v. comma ++ branch_text l.steps v) (take l.branch-index l.rest)
