use Rattle.std.proofs.Common.{take, drop}
use Rattle.fints_rules_dialogues.proofs.OwnLemmas.{IsHeardSoFar}
use Rattle.fints_rules_dialogues.proofs.own_params.OwnParams.of.Given as goal

abbrev pub invariant-loop-exchange : goal.invariant-loop-exchange
invariant-loop-exchange l =
    IsHeardSoFar l.exchanges (take l.exchange-index l.exchanges) (drop l.exchange-index l.exchanges) l.party.value l.heard.items
