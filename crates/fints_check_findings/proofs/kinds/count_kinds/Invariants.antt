use Rattle.std.proofs.Common.{◌≡◌, ◌≤◌, ◌+◌, drop}
use Rattle.std.specs.Set.{distinct_count}
use Rattle.std.specs.Str.{bytes_eq}
use Rattle.fints_check_findings.specs.Kinds.{template_kinds}
use Rattle.fints_check_findings.proofs.kinds.count_kinds.Given as goal

-- the kinds so far are those that nothing after them has
abbrev pub invariant-loop-i : goal.invariant-loop-i
invariant-loop-i l = record {
  kinds : l.kinds + distinct_count bytes_eq (template_kinds (drop l.i l.templates)) ≡ distinct_count bytes_eq
      (template_kinds l.templates);
  few : l.kinds ≤ l.i;
}
