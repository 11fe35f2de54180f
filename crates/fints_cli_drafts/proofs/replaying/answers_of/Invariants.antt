use Rattle.std.proofs.Common.{◌≡◌, take}
use Rattle.fints_cli_drafts.specs.Drafts.{answers_of}
use Rattle.fints_cli_drafts.proofs.replaying.answers_of.Given as goal

abbrev pub invariant-loop-exchange : goal.invariant-loop-exchange
invariant-loop-exchange l = l.answers.items ≡ answers_of (take l.exchange-index l.exchanges)
