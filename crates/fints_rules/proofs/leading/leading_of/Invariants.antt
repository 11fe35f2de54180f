use Rattle.std.proofs.Common.{◌≡◌, map, take}
use Rattle.fints_syntax.specs.Owned.{segments_of}
use Rattle.fints_rules.specs.Facts.{six_items}
use Rattle.fints_rules.proofs.leading.leading_of.Given as goal

abbrev pub invariant-loop-segment : goal.invariant-loop-segment
invariant-loop-segment l = l.all.items ≡ map six_items (segments_of (take l.segment-index l.segments))
