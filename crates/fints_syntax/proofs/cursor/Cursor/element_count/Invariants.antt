use Rattle.std.proofs.Common.{◌≡◌, ◌+◌, length}
use Rattle.fints_syntax.specs.Cursor.{ends_left}
use Rattle.fints_syntax.proofs.cursor.Cursor.element_count.Given as goal

abbrev pub invariant-loop-found : goal.invariant-loop-found
invariant-loop-found l = l.count + ends_left l.cursor ≡ ends_left l.self

abbrev pub decreases-loop-found : goal.decreases-loop-found
decreases-loop-found l = length l.cursor
