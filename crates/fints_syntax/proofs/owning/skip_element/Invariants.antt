use Rattle.std.proofs.Common.{◌≡◌, length}
use Rattle.fints_syntax.specs.Cursor.{after_element}
use Rattle.fints_syntax.proofs.owning.skip_element.Given as goal

abbrev pub invariant-loop-found : goal.invariant-loop-found
invariant-loop-found l = after_element l.cursor ≡ after_element l.initial.cursor

abbrev pub decreases-loop-found : goal.decreases-loop-found
decreases-loop-found l = length l.cursor
