use Rattle.fints_rules_permissions.proofs.LawLemmas.{one_table_table, one_table_refusal, one_table_not_both}
use Rattle.fints_rules_permissions.proofs.laws.one_table.Goals as goal

pub returns-clause-table : goal.returns-clause-table
returns-clause-table c = one_table_table

pub returns-clause-refusal : goal.returns-clause-refusal
returns-clause-refusal c = one_table_refusal

pub returns-clause-not_both : goal.returns-clause-not_both
returns-clause-not_both c = one_table_not_both
