use Rattle.fints_cli_texts.proofs.LawLemmas.{secrets_are_unshown}
use Rattle.fints_cli_texts.proofs.laws.secrets_are_unshown.Goals as goal

pub returns : goal.returns
returns c = secrets_are_unshown
