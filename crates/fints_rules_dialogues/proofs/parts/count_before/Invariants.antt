use Rattle.std.proofs.Common.{◌≡◌, ◌≤◌, ◌<◌, ◌⊎◌, count_by, take}
use Rattle.fints_rules_dialogues.specs.Parts.{begins}
use Rattle.fints_rules_dialogues.proofs.parts.count_before.Given as goal

abbrev pub invariant-loop-i : goal.invariant-loop-i
invariant-loop-i l = record {
  counted : l.begun ≡ count_by begins (take l.i l.exchanges);
  most : l.begun ≤ l.i;
  fewer : (l.number ≡ 0) ⊎ (l.begun < l.number);
}
