use Rattle.fints_rules_logs.proofs.LogLemmas.{keeps_some}
use Rattle.fints_rules_logs.proofs.log.Log.of.Goals as goal

pub invariant_of-result : goal.invariant_of-result
invariant_of-result c =
    (keeps_some c.in_ok-finds.finds.items c.as_slice.result.now c.in_ok-kept.kept.items c.in_ok-kept.passed
    c.in_ok-finds.finds.len c.is_empty.result c.in_ok-offset.field-0 c.is_empty.ensures c.if-is_empty.false
    c.in_ok-finds.finds.ok.0 c.as_slice.ensures.value c.in_default.is c.in_ok-offset.ensures.none
    c.in_ok-kept.ensures).some

pub returns-clause-log : goal.returns-clause-log
returns-clause-log c =
    let keeps =
    keeps_some c.in_ok-finds.finds.items c.as_slice.result.now c.in_ok-kept.kept.items c.in_ok-kept.passed
    c.in_ok-finds.finds.len c.is_empty.result c.in_ok-offset.field-0 c.is_empty.ensures c.if-is_empty.false
    c.in_ok-finds.finds.ok.0 c.as_slice.ensures.value c.in_default.is c.in_ok-offset.ensures.none
    c.in_ok-kept.ensures in
    record {
      finds = c.in_ok-finds.finds.items;
      scan = c.in_ok-finds.ensures;
      none_lost = keeps.none;
      is_kept = c.in_ok-kept.ensures;
      some = keeps.some;
    }
