use Rattle.std.proofs.Common.{length}
use Rattle.fints_rules_logs.proofs.KeepLemmas.{IsSettling}
use Rattle.fints_rules_logs.proofs.keeping.settle.Given as goal

abbrev pub invariant-loop-next : goal.invariant-loop-next
invariant-loop-next l =
    IsSettling l.initial.kept.items l.initial.passed l.initial.next l.kept.items l.passed l.next

abbrev pub decreases-loop-next : goal.decreases-loop-next
decreases-loop-next l = length l.kept.items
