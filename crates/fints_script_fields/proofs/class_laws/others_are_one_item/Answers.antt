use Rattle.fints_script_fields.proofs.ClassLawLemmas.{others_are_one_item}
use Rattle.fints_script_fields.proofs.class_laws.others_are_one_item.Goals as goal

pub returns : goal.returns
returns c = others_are_one_item
