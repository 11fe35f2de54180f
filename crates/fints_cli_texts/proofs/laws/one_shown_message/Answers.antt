use Rattle.fints_cli_texts.proofs.LawLemmas.{one_shown_message}
use Rattle.fints_cli_texts.proofs.laws.one_shown_message.Goals as goal

pub returns : goal.returns
returns c = one_shown_message
