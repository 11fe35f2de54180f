use Rattle.fints_script_fields.proofs.ClassLawLemmas.{text_is_one_account}
use Rattle.fints_script_fields.proofs.class_laws.text_is_one_account.Goals as goal

pub returns : goal.returns
returns c = text_is_one_account
