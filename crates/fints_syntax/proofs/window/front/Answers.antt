use Rattle.std.proofs.Common.{◌-◌, sym, arith}
use Rattle.std.proofs.lemmas.List.{take_all}
use Rattle.fints_syntax_segments.specs.declared.limits.TheConstants.{MAX_ITEMS}
use Rattle.fints_syntax.proofs.window.front.Goals as goal

pub returns-then-window-lt-MAX_ITEMS : goal.returns-then-window-lt-MAX_ITEMS
returns-then-window-lt-MAX_ITEMS c = sym (take_all (MAX_ITEMS - 1) c.args.window.now (omega (arith, c.if-window-lt-MAX_ITEMS.true)))
