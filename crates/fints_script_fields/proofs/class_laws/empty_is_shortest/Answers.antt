use Rattle.fints_script_fields.proofs.ClassLawLemmas.{empty_is_shortest}
use Rattle.fints_script_fields.proofs.class_laws.empty_is_shortest.Goals as goal

pub returns : goal.returns
returns c = empty_is_shortest
