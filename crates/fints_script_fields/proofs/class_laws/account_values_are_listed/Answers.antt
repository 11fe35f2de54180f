use Rattle.fints_script_fields.proofs.ClassLawLemmas.{account_values_are_listed}
use Rattle.fints_script_fields.proofs.class_laws.account_values_are_listed.Goals as goal

pub returns : goal.returns
returns c = account_values_are_listed
