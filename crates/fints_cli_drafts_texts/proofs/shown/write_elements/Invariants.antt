use Rattle.std.proofs.Common.{◌≡◌, ◌++◌, take}
use Rattle.fints_cli_drafts_texts.specs.DraftText.{each_from, element_shown}
use Rattle.fints_cli_drafts_texts.proofs.shown.write_elements.Given as goal

abbrev pub invariant-loop-i : goal.invariant-loop-i
invariant-loop-i l =
    l.text.items ≡ l.initial.text.items ++ each_from (λ n v. element_shown n v.items) 2 (take l.i l.elements)
