use Rattle.std.proofs.Common.{take}
use Rattle.fints_rules_dialogues.specs.Dialogues.{EndsBelow}
use Rattle.fints_rules_dialogues.proofs.SentLemmas.{AreSentAs}
use Rattle.fints_rules_dialogues.proofs.messages.sents_of.Given as goal

abbrev pub invariant-loop-found : goal.invariant-loop-found
invariant-loop-found l = record {
  sent : AreSentAs (take l.found-index l.found-items) l.sents.items;
  below : EndsBelow l.sents.items;
}
