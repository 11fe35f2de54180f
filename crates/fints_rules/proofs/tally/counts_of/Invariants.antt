use Rattle.std.proofs.Common.{◌≡◌, take}
use Rattle.std.specs.BTreeMap.{get}
use Rattle.std.specs.Cmp.Lexicographic.{slice_cmp}
use Rattle.std.specs.Ordering.{nat_cmp}
use Rattle.fints_syntax.specs.Owned.{segments_of}
use Rattle.fints_rules.specs.Tallies.{HoldsCounts, counts_in}
use Rattle.fints_rules.proofs.tally.counts_of.Given as goal

abbrev pub invariant-loop-segment : goal.invariant-loop-segment
invariant-loop-segment l =
    HoldsCounts (segments_of l.body) (get (slice_cmp nat_cmp) l.by_kind)
    → l.counts.items ≡ counts_in (segments_of l.body) (segments_of (take l.segment-index l.body))
