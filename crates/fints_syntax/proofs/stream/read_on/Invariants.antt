use Rattle.std.proofs.Common.{List, ◌++◌, ◌-◌, length}
use Rattle.fints_syntax.specs.declared.capture.Placed.{Placed}
use Rattle.fints_syntax.specs.Streams.{moved_by}
use Rattle.fints_syntax.proofs.Streams.{Going}
use Rattle.fints_syntax.proofs.stream.read_on.Given as goal

abbrev pub invariant-loop-start : goal.invariant-loop-start
invariant-loop-start g l =
    (placed : List Placed) × Going l.bytes l.whole l.start l.search placed
    × ((seen : List Placed) → g.T.Taker.good seen l.fn.taker
    → g.T.Taker.good (seen ++ moved_by l.at placed) l.taker)

abbrev pub decreases-loop-start : goal.decreases-loop-start
decreases-loop-start g l = length l.initial.bytes - l.start
