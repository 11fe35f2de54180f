use Rattle.std.proofs.Common.{length}
use Rattle.fints_syntax_segments.specs.Segment.{values_of}
use Rattle.fints_syntax.specs.Reader.{read_elements}
use Rattle.fints_syntax.proofs.Fills.{Filled}
use Rattle.fints_syntax.proofs.cursor.Cursor.fill.Given as goal

abbrev pub invariant-loop-found : goal.invariant-loop-found
invariant-loop-found l = Filled (values_of (read_elements l.self)) l.cursor l.filling.elements l.filling.items

abbrev pub decreases-loop-found : goal.decreases-loop-found
decreases-loop-found l = length l.cursor
