use Rattle.std.proofs.Common.{◌≡◌, ◌≤◌, take}
use Rattle.fints_check_findings.specs.Kinds.{template_count}
use Rattle.fints_check_findings.proofs.kinds.count_kind.Given as goal

abbrev pub invariant-loop-template : goal.invariant-loop-template
invariant-loop-template l = record {
  count : l.count ≡ template_count l.kind (take l.template-index l.templates);
  few : l.count ≤ l.template-index;
}
