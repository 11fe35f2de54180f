use Rattle.std.proofs.Common.{rules}
use Rattle.fints_wire.proofs.values.push_shortest.Goals as goal

pub returns : goal.returns
returns g c = search rules
