use Rattle.std.proofs.Common.{◌++◌, ◌∙◌, List, ap, arith}
use Rattle.fints_cli_drafts_texts.specs.declared.notes.OrderNote.{OrderNote}
use Rattle.fints_cli_drafts_texts.proofs.EachLemmas.{each_written}
use Rattle.fints_cli_drafts_texts.specs.DraftText.{step_row, step_row_at}
use Rattle.fints_cli_drafts_texts.proofs.steps.write_each_step.Goals as goal

pub loop-i-preserved : goal.loop-i-preserved
loop-i-preserved c =
    each_written (step_row_at c.args.script.now c.args.notes.now) 0 c.args.steps.now c.loop-i.i c.loop-i.i
    c.index-steps-i.result c.args.text.now.items c.loop-i.text.items c.write_step.new.text.items
    c.loop-i-test.true c.index-steps-i.is (omega arith) c.loop-i.invariant
    (c.in_ok-write_step.ensures
    ∙ ap (λ (x : List OrderNote). c.loop-i.text.items ++ step_row c.args.script.now x c.index-steps-i.result)
    c.notes_at.ensures)
