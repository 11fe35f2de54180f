use Rattle.std.proofs.Common.{◌≡◌, ◌++◌, take}
use Rattle.std.specs.List.{flat_map}
use Rattle.fints_cli_drafts_texts.specs.DraftText.{comma, text_string}
use Rattle.fints_cli_drafts_texts.proofs.strings.write_strings.Given as goal

abbrev pub invariant-loop-value : goal.invariant-loop-value
invariant-loop-value l =
    l.text.items ≡ l.initial.text.items ++ flat_map (λ v. comma ++ text_string v) (take l.value-index l.rest)
