use Rattle.std.proofs.Common.{◌≡◌, ◌++◌, take}
use Rattle.std.specs.List.{flat_map}
use Rattle.fints_cli_drafts_texts.specs.DraftText.{comma, element_text}
use Rattle.fints_cli_drafts_texts.proofs.elements.write_joined_elements.Given as goal

abbrev pub invariant-loop-element : goal.invariant-loop-element
invariant-loop-element l =
    l.text.items ≡ l.initial.text.items ++ flat_map (λ v. comma ++ element_text l.fields v.items) (take l.element-index l.rest)
