use Rattle.std.proofs.Common.{rules}
use Rattle.fints_wire.proofs.building.middle_text.Goals as goal

pub returns : goal.returns
returns c = search rules
