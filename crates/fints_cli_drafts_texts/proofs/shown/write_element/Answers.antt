use Rattle.std.proofs.Common.{◌+◌, arith}
use Rattle.fints_cli_drafts_texts.proofs.EachLemmas.{each_written}
use Rattle.fints_cli_drafts_texts.specs.DraftText.{item_shown}
use Rattle.fints_cli_drafts_texts.proofs.shown.write_element.Goals as goal

pub loop-i-preserved : goal.loop-i-preserved
loop-i-preserved c =
    each_written (item_shown c.args.element) 1 c.args.items.now c.loop-i.i (c.loop-i.i + 1)
    c.index-items-i.result c.args.text.now.items c.loop-i.text.items c.write_item.new.text.items
    c.loop-i-test.true c.index-items-i.is (omega arith) c.loop-i.invariant c.in_ok-write_item.ensures
