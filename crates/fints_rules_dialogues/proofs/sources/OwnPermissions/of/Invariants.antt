use Rattle.std.proofs.Common.{◌≡◌, take}
use Rattle.std.specs.List.{AllByRecursion}
use Rattle.fints_rules_dialogues.specs.Sources.{IsGranting, heard_in}
use Rattle.fints_rules_dialogues.proofs.sources.OwnPermissions.of.Given as goal

abbrev pub invariant-loop-heard : goal.invariant-loop-heard
invariant-loop-heard l =
    (heard_in l.all.items ≡ take l.heard-index l.told) × AllByRecursion (IsGranting l.orders) l.all.items
