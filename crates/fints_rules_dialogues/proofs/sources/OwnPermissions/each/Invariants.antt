use Rattle.std.proofs.Common.{drop, take}
use Rattle.fints_rules_dialogues.proofs.SourceLemmas.{AreGrantedSoFar}
use Rattle.fints_rules_dialogues.proofs.sources.OwnPermissions.each.Given as goal

abbrev pub invariant-loop-granting : goal.invariant-loop-granting
invariant-loop-granting l =
    AreGrantedSoFar l.self-inside.orders.now l.all (take l.granting-index l.all) (drop l.granting-index l.all)
    l.banks l.users l.bases.items
