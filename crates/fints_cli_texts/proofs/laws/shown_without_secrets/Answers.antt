use Rattle.fints_cli_texts.proofs.LawLemmas.{shown_without_secrets}
use Rattle.fints_cli_texts.proofs.laws.shown_without_secrets.Goals as goal

pub returns : goal.returns
returns c = shown_without_secrets
