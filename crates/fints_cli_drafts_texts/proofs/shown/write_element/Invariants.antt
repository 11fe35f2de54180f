use Rattle.std.proofs.Common.{◌≡◌, ◌++◌, take}
use Rattle.fints_cli_drafts_texts.specs.DraftText.{each_from, item_shown}
use Rattle.fints_cli_drafts_texts.proofs.shown.write_element.Given as goal

abbrev pub invariant-loop-i : goal.invariant-loop-i
invariant-loop-i l =
    l.text.items ≡ l.initial.text.items ++ each_from (item_shown l.element) 1 (take l.i l.items)
