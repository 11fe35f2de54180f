use Rattle.fints_script_rows.proofs.LawLemmas.{one_field}
use Rattle.fints_script_rows.proofs.laws.one_field.Goals as goal

pub returns : goal.returns
returns c = one_field
