use Rattle.std.proofs.Common.{ℕ, List, subst}
use Rattle.std.proofs.lemmas.Result.{IfOk-weaker}
use Rattle.fints_rules.specs.Breaks.{IsJudgedAfter}
use Rattle.fints_rules_dialogues.proofs.auditing.judge_next.Goals as goal

pub returns-in-None : goal.returns-in-None
returns-in-None c =
    rw c.in-None.is
    (IfOk-weaker c.judge_message.result _ _
    (λ broken judged. λ earlier is. judged c.args.exchange.now.sent.bytes.now is.1)
    c.judge_message.ensures)

pub returns-in-Some : goal.returns-in-Some
returns-in-Some c =
    let granted = c.args.permissions.now in
    let before = c.in-Some.earlier.now.sent.bytes.now in
    let bytes = c.args.exchange.now.sent.bytes.now in
    rw c.in-Some.is
    (IfOk-weaker c.judge_message_after.result _ _
    (λ broken judged. λ earlier is.
    subst (λ (codes : List ℕ). IsJudgedAfter granted before codes bytes broken.items)
    c.codes_told-codes.ensures (judged before bytes earlier.1 is.1))
    c.judge_message_after.ensures)
