use Rattle.std.proofs.Common.{IfErr, IfOk, List, Option, Result, drop, subst}
use Rattle.std.specs.Prelude.{option_copied}
use Rattle.std.proofs.lemmas.Result.{err_from_is_err_and}
use Rattle.fints_rules_dialogues.specs.declared.fault.DialogueFault.{DialogueFault}
use Rattle.fints_rules_dialogues.specs.declared.messages.RecordedMessage.{RecordedMessage}
use Rattle.fints_rules_dialogues.specs.declared.reading.Exchange.{Exchange}
use Rattle.fints_rules_dialogues.specs.Dialogues.{BeginsWithOne, IsExchangeFault, IsMemoryOrRefusal, IsTurnFault}
use Rattle.fints_rules_dialogues.proofs.Turns.{last_in, one_read, turn_refused}
use Rattle.fints_rules_dialogues.proofs.recording.Recording.exchanges.Goals as goal

pub loop-at-preserved : goal.loop-at-preserved
loop-at-preserved g c =
    let e = c.in_ok-exchange.exchange in
    let es = c.loop-at.exchanges.items in
    let messages = c.messages-messages.result.now in
    let last = last_in c.deref.result.now es (option_copied c.last-last.result) c.last-last.ensures.value c.deref.ensures.value in
    let begins : BeginsWithOne (option_copied c.last-last.result) (drop c.loop-at.at messages) e =
    subst (λ (xs : List RecordedMessage). BeginsWithOne (option_copied c.last-last.result) xs e) c.split_at.ensures.back
    (subst (λ (r : Result Exchange DialogueFault). IfOk r (BeginsWithOne (option_copied c.last-last.result) c.split_at.result.1.now))
    c.in_ok-exchange.was c.read_exchange-read.ensures.exchange) in
    rw (c.in_ok-push.ensures.items, c.message_count-at.ensures)
    (one_read messages c.loop-at.at es e c.loop-at.invariant
    (subst (λ (b : Option Exchange). BeginsWithOne b (drop c.loop-at.at messages) e) last begins))

pub returns-in_err-exchange-clause-refused : goal.returns-in_err-exchange-clause-refused
returns-in_err-exchange-clause-refused g c =
    let es = c.loop-at.exchanges.items in
    let messages = c.messages-messages.result.now in
    let f = c.in_err-exchange.field-0.0 in
    let last = last_in c.deref.result.now es (option_copied c.last-last.result) c.last-last.ensures.value c.deref.ensures.value in
    let p = err_from_is_err_and c.from_residual.result c.from_residual.ensures.1 in
    rw (p.1, p.2)
    (subst (λ (xs : List RecordedMessage). IsMemoryOrRefusal (IsTurnFault xs) f) c.messages-messages.ensures.messages
    (turn_refused messages c.loop-at.at es f c.loop-at.invariant
    (subst (λ (b : Option Exchange). IsMemoryOrRefusal (IsExchangeFault b (drop c.loop-at.at messages)) f) last
    (subst (λ (xs : List RecordedMessage). IsMemoryOrRefusal (IsExchangeFault (option_copied c.last-last.result) xs) f)
    c.split_at.ensures.back
    (subst
    (λ (r : Result Exchange DialogueFault). IfErr r (IsMemoryOrRefusal (IsExchangeFault (option_copied c.last-last.result) c.split_at.result.1.now)))
    c.in_err-exchange.was c.read_exchange-read.ensures.refused)))))
