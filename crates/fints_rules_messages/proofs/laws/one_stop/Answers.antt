use Rattle.fints_rules_messages.proofs.LawLemmas.{one_stop_place, one_stop_not_both, one_stop_refusal}
use Rattle.fints_rules_messages.proofs.laws.one_stop.Goals as goal

pub returns-clause-place : goal.returns-clause-place
returns-clause-place c = one_stop_place

pub returns-clause-not_both : goal.returns-clause-not_both
returns-clause-not_both c = one_stop_not_both

pub returns-clause-refusal : goal.returns-clause-refusal
returns-clause-refusal c = one_stop_refusal
