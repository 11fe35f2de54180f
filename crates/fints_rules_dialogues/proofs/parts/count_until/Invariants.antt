use Rattle.std.proofs.Common.{◌≡◌, false, take}
use Rattle.std.specs.List.{list_any}
use Rattle.fints_rules_dialogues.specs.Parts.{begins}
use Rattle.fints_rules_dialogues.proofs.parts.count_until.Given as goal

abbrev pub invariant-loop-i : goal.invariant-loop-i
invariant-loop-i l = list_any begins (take l.i l.exchanges) ≡ false
