use Rattle.std.proofs.Common.{refl, arith}
use Rattle.fints_cli_drafts_texts.proofs.LineLemmas.{line_end, line_more}
use Rattle.fints_cli_drafts_texts.proofs.shown.write_lines.Goals as goal

pub loop-b-preserved : goal.loop-b-preserved
loop-b-preserved c =
    line_more c.loop-b.begins _ c.args.bytes.now c.loop-b.b-index _ c.loop-b.text.items
    c.write_front.new.text.items c.write_kept.new.text.items _ c.loop-b-test.true refl refl c.loop-b.invariant
    c.in_ok-write_front.ensures c.in_ok-write_kept.ensures

pub returns : goal.returns
returns c =
    line_end c.loop-b.begins c.args.bytes.now c.loop-b.b-index c.loop-b.text.items c.write_end.new.text.items _
    (omega arith) c.loop-b.invariant c.in_ok-write_end.ensures
