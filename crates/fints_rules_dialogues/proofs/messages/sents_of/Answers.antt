use Rattle.std.proofs.Common.{[], ◌∷◌, ◌++◌, take, sym, subst, ◌∙◌, arith, ap}
use Rattle.std.proofs.lemmas.List.{take_all, take_more}
use Rattle.fints_rules_dialogues.specs.declared.messages.RecordedMessage.{RecordedMessage}
use Rattle.fints_rules_dialogues.proofs.SentLemmas.{below_more, none_of_none, sent_more, AreSentAs}
use Rattle.fints_rules_dialogues.proofs.messages.sents_of.Goals as goal

pub loop-found-preserved : goal.loop-found-preserved
loop-found-preserved c =
    let all = c.messages-found-items.result.now in
    let i = c.loop-found.found-index in
    let item = c.found-item.result in
    let sent : RecordedMessage = record { start = c.start.result; bytes = c.bytes.result } in
    let more = take_more all i item c.loop-found-test.true ∙ ap (λ x. take i all ++ x ∷ []) (sym c.found-item.is) in
    record {
      sent =
          rw c.in_ok-push.ensures.items
          (subst (λ xs. AreSentAs xs (c.loop-found.sents.items ++ sent ∷ [])) (sym more)
          (sent_more (take i all) c.loop-found.sents.items item sent c.start.ensures c.bytes.ensures.bytes
          c.loop-found.invariant.sent));
      below =
          rw c.in_ok-push.ensures.items
          (below_more c.loop-found.sents.items sent c.loop-found.invariant.below
          (omega (arith, c.start.ensures, c.bytes.ensures.below)));
    }

pub returns-clause-sent : goal.returns-clause-sent
returns-clause-sent c =
    subst (λ xs. AreSentAs xs c.loop-found.sents.items)
    (take_all c.loop-found.found-index c.messages-found-items.result.now (omega (arith, c.loop-found-test.false))
    ∙ c.messages-found-items.ensures.messages)
    c.loop-found.invariant.sent

pub returns-clause-some : goal.returns-clause-some
returns-clause-some c =
    λ e.
    c.messages-found-items.ensures.some
    (none_of_none c.messages-found-items.result.now c.loop-found.sents.items
    (subst (λ xs. AreSentAs xs c.loop-found.sents.items)
    (take_all c.loop-found.found-index c.messages-found-items.result.now (omega (arith, c.loop-found-test.false)))
    c.loop-found.invariant.sent) e)
