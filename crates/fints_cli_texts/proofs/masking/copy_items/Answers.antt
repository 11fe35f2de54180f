use Rattle.std.proofs.Common.{◌<◌, ◌++◌, drop, length, arith}
use Rattle.fints_syntax_segments.specs.Lent.{item_of_ref}
use Rattle.fints_cli_texts.proofs.MaskLemmas.{item_copied}
use Rattle.fints_cli_texts.proofs.masking.copy_items.Goals as goal

pub loop-i-preserved : goal.loop-i-preserved
loop-i-preserved c =
    let items = c.args.items.now in
    let lt : c.loop-i.i < length items = omega (arith, c.loop-i-test.true, c.len-i-end.ensures) in
    item_copied items c.loop-i.out.items c.push.new.self.items
    (c.args.out.now.items ++ drop c.args.skipped items) c.loop-i.i (item_of_ref c.in-Some.item) c.in_ok-copied.field-0
    lt c.in-Some.ensures c.in_ok-copied.ensures c.in_ok-push.ensures.items c.loop-i.invariant
