use Rattle.std.proofs.Common.{ℕ, ◌≡◌, ◌<◌, length, get_or, slice_get, Some}
use Rattle.fints_script_templates.specs.declared.template.Template.{Template}
use Rattle.fints_check_findings.specs.Kinds.{template_count}
use Rattle.fints_check_findings.proofs.kinds.kind_counts.Given as goal

-- the counts so far
abbrev pub invariant-loop-i : goal.invariant-loop-i
invariant-loop-i l = record {
  long : length l.counts ≡ 100;
  each : (k : ℕ) (t : Template) → k < l.i → slice_get l.templates k ≡ Some t
      → get_or l.counts k 0 ≡ template_count t.kind l.templates;
}
