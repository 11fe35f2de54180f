-- The laws, each with its proof, for the proofs of the crates above.
use Rattle.fints_rules_permissions.specs.Laws.{OneTable, OneTableFault, NoTableAtFault}
use Rattle.fints_rules_permissions.proofs.OneTable.{one_table, one_table_fault, no_table_at_fault}

pub one_table_table : OneTable
one_table_table = one_table

pub one_table_refusal : OneTableFault
one_table_refusal = one_table_fault

pub one_table_not_both : NoTableAtFault
one_table_not_both = no_table_at_fault
