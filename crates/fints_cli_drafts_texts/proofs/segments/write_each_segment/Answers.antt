use Rattle.std.proofs.Common.{arith}
use Rattle.fints_cli_drafts_texts.proofs.EachLemmas.{each_written}
use Rattle.fints_cli_drafts_texts.specs.DraftText.{segment_text}
use Rattle.fints_cli_drafts_texts.proofs.segments.write_each_segment.Goals as goal

pub loop-i-preserved : goal.loop-i-preserved
loop-i-preserved c =
    each_written (segment_text c.args.fields.now c.args.notes.now) 0 c.args.segments.now c.loop-i.i c.loop-i.i
    c.index-segments-i.result c.args.text.now.items c.loop-i.text.items c.write_segment.new.text.items
    c.loop-i-test.true c.index-segments-i.is (omega arith) c.loop-i.invariant c.in_ok-write_segment.ensures
