use Rattle.fints_script_fields.proofs.ClassLawLemmas.{listed_accounts_are_values_admitted, listed_accounts_are_values_items}
use Rattle.fints_script_fields.proofs.class_laws.listed_accounts_are_values.Goals as goal

pub returns-clause-admitted : goal.returns-clause-admitted
returns-clause-admitted c = listed_accounts_are_values_admitted

pub returns-clause-items : goal.returns-clause-items
returns-clause-items c = listed_accounts_are_values_items
