use Rattle.fints_cli_drawings.proofs.OpenerLemmas.{openers_are_least}
use Rattle.fints_cli_drawings.proofs.laws.openers_are_least.Goals as goal

pub returns : goal.returns
returns c = openers_are_least
