use Rattle.std.proofs.Common.{◌≡◌, take}
use Rattle.fints_syntax.specs.Owned.{segments_of}
use Rattle.fints_syntax.proofs.view.owned_segments.Given as goal

abbrev pub invariant-loop-view : goal.invariant-loop-view
invariant-loop-view l = l.owned.items ≡ segments_of (take l.view-index l.views)
