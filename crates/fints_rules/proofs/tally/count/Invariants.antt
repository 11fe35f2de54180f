use Rattle.std.proofs.Common.{◌≡◌, ◌≤◌, take}
use Rattle.std.specs.BTreeMap.{get}
use Rattle.std.specs.Cmp.Lexicographic.{slice_cmp}
use Rattle.std.specs.Ordering.{nat_cmp}
use Rattle.std.specs.Set.{distinct_count}
use Rattle.std.specs.Str.{bytes_eq}
use Rattle.fints_syntax.specs.Owned.{segments_of}
use Rattle.fints_rules.specs.Facts.{plain_kinds}
use Rattle.fints_rules.specs.Tallies.{HoldsCounts}
use Rattle.fints_rules.proofs.tally.count.Given as goal

abbrev pub invariant-loop-segment : goal.invariant-loop-segment
invariant-loop-segment l = record {
  counts : HoldsCounts (take l.segment-index (segments_of l.body)) (get (slice_cmp nat_cmp) l.by_kind);
  kinds : l.kinds ≡ distinct_count bytes_eq (plain_kinds (take l.segment-index (segments_of l.body)));
  few : l.kinds ≤ l.segment-index;
}
