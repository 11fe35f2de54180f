use Rattle.fints_script_fields.proofs.ClassLawLemmas.{one_class_text, one_class_bin, one_class_oneof, one_class_account}
use Rattle.fints_script_fields.proofs.class_laws.one_class.Goals as goal

pub returns-clause-text : goal.returns-clause-text
returns-clause-text c = one_class_text

pub returns-clause-bin : goal.returns-clause-bin
returns-clause-bin c = one_class_bin

pub returns-clause-oneof : goal.returns-clause-oneof
returns-clause-oneof c = one_class_oneof

pub returns-clause-account : goal.returns-clause-account
returns-clause-account c = one_class_account
