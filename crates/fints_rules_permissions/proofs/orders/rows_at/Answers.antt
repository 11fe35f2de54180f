use Rattle.std.proofs.Common.{arith, inl, refl}
use Rattle.std.proofs.lemmas.List.{length-map}
use Rattle.toml.specs.View.{view}
use Rattle.fints_rules_permissions.proofs.OrderLemmas.{item_list-view, faults_at, tables_at}
use Rattle.fints_rules_permissions.proofs.orders.rows_at.Goals as goal

pub returns-then-entries-gt-MAX_ROWS-clause-fault : goal.returns-then-entries-gt-MAX_ROWS-clause-fault
returns-then-entries-gt-MAX_ROWS-clause-fault c = rw item_list-view (inl (refl, omega (arith, length-map c.args.entries.now view)))

pub returns-clause-table : goal.returns-clause-table
returns-clause-table c = tables_at (λ t. t) c.args.entries.now c.rows_of.result (omega arith) c.rows_of.ensures.rows

pub returns-clause-fault : goal.returns-clause-fault
returns-clause-fault c = faults_at c.args.entries.now c.rows_of.result (omega arith) c.rows_of.ensures.fault
