use Rattle.std.proofs.Common.{◌≡◌, ◌+◌, List}
use Rattle.fints_rules_logs.specs.Finds.{FoundValue}
use Rattle.fints_rules_logs.specs.Kept.{IsKept, IsKeptAfter}
use Rattle.fints_rules_logs.specs.declared.keeping.Passed.{Passed}
use Rattle.fints_rules_logs.proofs.KeepLemmas.{count_of}
use Rattle.fints_rules_logs.proofs.keeping.keep.Given as goal

abbrev pub invariant-loop-find : goal.invariant-loop-find
invariant-loop-find l = record {
  all :
      (after : List FoundValue) (now : Passed)
      → IsKeptAfter l.kept.items l.passed l.find-iterator.rest.items after now
      → IsKept l.initial.find-iterator.rest.items after now;
  counted : count_of l.kept.items l.passed + l.find-iterator.rest.len ≡ l.initial.find-iterator.rest.len;
}
