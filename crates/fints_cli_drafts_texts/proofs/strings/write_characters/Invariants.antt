use Rattle.std.proofs.Common.{◌≡◌, ◌++◌, take}
use Rattle.std.specs.List.{flat_map}
use Rattle.fints_cli_drafts_texts.specs.DraftText.{escaped}
use Rattle.fints_cli_drafts_texts.proofs.strings.write_characters.Given as goal

abbrev pub invariant-loop-b : goal.invariant-loop-b
invariant-loop-b l =
    l.text.items ≡ l.initial.text.items ++ flat_map escaped (take l.b-index l.value)
