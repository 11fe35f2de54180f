use Rattle.std.proofs.Common.{◌≡◌, ◌++◌, take}
use Rattle.fints_cli_drafts_texts.specs.DraftText.{each_from, step_row_at}
use Rattle.fints_cli_drafts_texts.proofs.steps.write_each_step.Given as goal

abbrev pub invariant-loop-i : goal.invariant-loop-i
invariant-loop-i l =
    l.text.items ≡ l.initial.text.items ++ each_from (step_row_at l.script l.notes) 0 (take l.i l.steps)
