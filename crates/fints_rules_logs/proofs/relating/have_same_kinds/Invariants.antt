use Rattle.std.proofs.Common.{◌≡◌, drop}
use Rattle.fints_syntax.specs.Owned.{segments_of}
use Rattle.fints_rules_logs.specs.Kept.{kinds_of}
use Rattle.fints_rules_logs.proofs.relating.have_same_kinds.Given as goal

abbrev pub invariant-loop-i : goal.invariant-loop-i
invariant-loop-i l = record {
  rest :
      kinds_of (segments_of l.a) ≡ kinds_of (segments_of l.b)
      → kinds_of (segments_of (drop l.i l.a)) ≡ kinds_of (segments_of (drop l.i l.b));
  whole :
      kinds_of (segments_of (drop l.i l.a)) ≡ kinds_of (segments_of (drop l.i l.b))
      → kinds_of (segments_of l.a) ≡ kinds_of (segments_of l.b);
}
