use Rattle.std.proofs.Common.{IfOk, List, Option, Result, drop, subst}
use Rattle.std.specs.Prelude.{option_copied}
use Rattle.fints_rules_dialogues.specs.declared.fault.DialogueFault.{DialogueFault}
use Rattle.fints_rules_dialogues.specs.declared.messages.RecordedMessage.{RecordedMessage}
use Rattle.fints_rules_dialogues.specs.declared.reading.Exchange.{Exchange}
use Rattle.fints_rules_dialogues.specs.Auditing.{IsAuditedNext, IsExchangeOrNone}
use Rattle.fints_rules_dialogues.specs.Dialogues.{BeginsWithOne, IsExchange}
use Rattle.fints_rules_dialogues.proofs.Audits.{one_audited}
use Rattle.fints_rules_dialogues.proofs.auditing.audit.Goals as goal

pub loop-at-preserved : goal.loop-at-preserved
loop-at-preserved g c =
    let e = c.in_ok-exchange.exchange in
    let a = c.in_ok-one.one in
    let granted = c.args.permissions.now in
    let messages = c.messages-messages.result.now in
    let same = c.as_ref-earlier.ensures.value in
    let begins : BeginsWithOne (option_copied c.as_ref-earlier.result) (drop c.loop-at.at messages) e =
    subst (λ (xs : List RecordedMessage). BeginsWithOne (option_copied c.as_ref-earlier.result) xs e) c.split_at.ensures.back
    (subst (λ (r : Result Exchange DialogueFault). IfOk r (BeginsWithOne (option_copied c.as_ref-earlier.result) c.split_at.result.1.now))
    c.in_ok-exchange.was c.read_exchange-read.ensures.exchange) in
    rw (c.in_ok-push.ensures.items, c.message_count-at.ensures)
    (one_audited granted messages c.loop-at.at c.loop-at.before c.loop-at.audited.items e a c.loop-at.invariant
    (subst (λ (b : Option Exchange). BeginsWithOne b (drop c.loop-at.at messages) e) same begins)
    (subst (λ (b : Option Exchange). IsExchangeOrNone b → IsExchange e → IsAuditedNext granted b e a) same
    c.in_ok-one.ensures))
