use Rattle.fints_wire.proofs.LawLemmas.{dialog_is_one_item}
use Rattle.fints_wire.proofs.laws.dialog_is_one_item.Goals as goal

pub returns : goal.returns
returns c = dialog_is_one_item
