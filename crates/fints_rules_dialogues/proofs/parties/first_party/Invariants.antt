use Rattle.std.proofs.Common.{◌≡◌, take, None}
use Rattle.fints_rules_dialogues.specs.Nearest.{first_in}
use Rattle.fints_rules_dialogues.specs.Parties.{names_party}
use Rattle.fints_rules_dialogues.proofs.parties.first_party.Given as goal

abbrev pub invariant-loop-exchange : goal.invariant-loop-exchange
invariant-loop-exchange l = first_in names_party (take l.exchange-index l.exchanges) ≡ None
