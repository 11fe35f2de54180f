use Rattle.std.proofs.Common.{take}
use Rattle.fints_syntax.specs.Owned.{segments_of}
use Rattle.fints_params.specs.Steps.{Continues}
use Rattle.fints_params.proofs.opening.take_all.Given as goal

abbrev pub invariant-loop-view : goal.invariant-loop-view
invariant-loop-view g l = Continues g.R.SegmentTaker.good l.fn.taker l.taker (take l.view-index (segments_of l.views))
