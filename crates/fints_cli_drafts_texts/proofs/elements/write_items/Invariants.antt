use Rattle.std.proofs.Common.{◌≡◌, ◌++◌, take}
use Rattle.std.specs.List.{flat_map}
use Rattle.fints_cli_drafts_texts.specs.DraftText.{comma, item_string}
use Rattle.fints_cli_drafts_texts.proofs.elements.write_items.Given as goal

abbrev pub invariant-loop-item : goal.invariant-loop-item
invariant-loop-item l =
    l.text.items ≡ l.initial.text.items ++ flat_map (λ v. comma ++ item_string l.fields v) (take l.item-index l.rest)
