use Rattle.std.proofs.Common.{◌+◌, drop}
use Rattle.std.proofs.lemmas.List.{take_rest}
use Rattle.fints_syntax.proofs.Windows.{framed, unfinished, so_far_more}
use Rattle.fints_syntax.proofs.Texts.{no_units}
use Rattle.fints_syntax.proofs.window.find_item_by_item.Goals as goal

pub returns-in-Cut : goal.returns-in-Cut
returns-in-Cut c =
    let h = rw (take_rest c.args.window.now c.loop-items.at) at c.in-Cut.ensures in (
      unfinished c.args.window.now c.loop-items.items c.loop-items.at c.loop-items.invariant.so_far
          c.loop-items-test.true h.0,
      record { so_far = c.loop-items.invariant.so_far; few = c.loop-items-test.true; units = h.1 },
    )

pub returns-then-after-eq39 : goal.returns-then-after-eq39
returns-then-after-eq39 c =
    framed c.args.window.now c.loop-items.items c.loop-items.at c.in-Whole.len c.in-Whole.after
    c.loop-items.invariant.so_far c.loop-items-test.true c.requires.short
    (rw (take_rest c.args.window.now c.loop-items.at) at c.in-Whole.ensures) c.if-after-eq39.true

pub loop-items-preserved : goal.loop-items-preserved
loop-items-preserved c =
    let whole = rw (take_rest c.args.window.now c.loop-items.at) at c.in-Whole.ensures in
    record {
      so_far =
          so_far_more c.args.window.now c.loop-items.items c.loop-items.at c.in-Whole.len c.in-Whole.after
          c.loop-items.invariant.so_far whole c.if-after-eq39.false;
      units = no_units (drop (c.loop-items.at + (c.in-Whole.len + 1)) c.args.window.now);
    }
