use Rattle.std.proofs.Common.{◌≡◌, ◌∙◌, ◌-◌, ℕ, List, [], Option, Some, None, IfErr, IfOk, slice_get, take, length, ap, sym, subst}
use Rattle.std.proofs.lemmas.Result.{IfErr-weaker, IfOk-weaker}
use Rattle.fints_rules.specs.Breaks.{IsJudged, IsJudgedAfter, IsJudgeFaultAfter, PermittedAfter}
use Rattle.fints_rules.specs.Messages.{IsMessage}
use Rattle.fints_rules.specs.Read.{IsJudgeFault}
use Rattle.fints_rules.specs.JudgeFaults.{Memory}
use Rattle.fints_example_outbox.specs.Inside.{outbox_of}
use Rattle.fints_example_outbox.specs.Outboxes.{IsHeldFor, IsJudgedAs, IsJudgedNextIn, IsNextIn, IsPermittedAfter, OutboxValue, HandedOnValue}
use Rattle.fints_example_outbox.specs.declared.outbox.Held.TheVariants.{Unjudged}
use Rattle.fints_example_outbox.proofs.Judging.{held_after, held_first, is_message, nothing_broken, nothing_broken_after}
use Rattle.fints_rules.proofs.Unbroken.{permitted, permitted_after}
use Rattle.fints_example_outbox.proofs.outbox.Outbox.broken.Goals as goal

-- the last of what was sent, where its list is lent
last_is : (sent lent : List HandedOnValue) (o : Option HandedOnValue) → lent ≡ sent
    → o ≡ slice_get lent (length lent - 1) → slice_get sent (length sent - 1) ≡ o
last_is sent lent o same found = ap (λ (xs : List HandedOnValue). slice_get xs (length xs - 1)) (sym same) ∙ sym found

-- what is next is permitted after the last message and the answer to it
next_permitted : (s : OutboxValue) (before : HandedOnValue) (message earlier codes : List ℕ)
    → slice_get s.sent (length s.sent - 1) ≡ Some before → earlier ≡ before.message → codes ≡ s.codes
    → IsNextIn s message → PermittedAfter s.granted earlier codes message
next_permitted s before message earlier codes last was said next =
    let one : PermittedAfter s.granted before.message s.codes message = subst (λ (o : Option HandedOnValue). IsPermittedAfter s.granted o s.codes message) last next in
    rw (was, said) one

-- ---- after the last message that was sent

pub returns-in-Some-clause-permitted : goal.returns-in-Some-clause-permitted
returns-in-Some-clause-permitted c =
    let s = outbox_of c.self.inside in
    let message = c.args.message.now in
    let before = c.in-Some.before.now in
    let last = last_is s.sent _ (Some before) c.deref.ensures.value c.in-Some.ensures.value in
    subst (λ (v : OutboxValue). IfOk c.judge_after.result (λ broken. broken.items ≡ [] → IsNextIn v message)) c.self.view_is
    (IfOk-weaker c.judge_after.result
    (λ broken. IsJudgedAfter s.granted c.message.result.now c.as_slice.result.now message broken.items)
    (λ broken. broken.items ≡ [] → IsNextIn s message)
    (λ broken h none.
    let one = permitted_after s.granted c.message.result.now c.as_slice.result.now message broken.items h none in
    let two = subst (λ (b : List ℕ). PermittedAfter s.granted b c.as_slice.result.now message) c.message.ensures one in
    let three = subst (λ (codes : List ℕ). PermittedAfter s.granted before.message codes message) c.as_slice.ensures.value two in
    subst (λ (o : Option HandedOnValue). IsPermittedAfter s.granted o s.codes message) (sym last) three)
    c.judge_after.ensures.judged)

pub returns-in-Some-clause-broken : goal.returns-in-Some-clause-broken
returns-in-Some-clause-broken c =
    let s = outbox_of c.self.inside in
    let message = c.args.message.now in
    let before = c.in-Some.before.now in
    let last = last_is s.sent _ (Some before) c.deref.ensures.value c.in-Some.ensures.value in
    let back = next_permitted s before message c.message.result.now c.as_slice.result.now last c.message.ensures c.as_slice.ensures.value in
    subst (λ (v : OutboxValue). IfOk c.judge_after.result (λ broken. IsNextIn v message → broken.items ≡ [])) c.self.view_is
    (IfOk-weaker c.judge_after.result
    (λ broken. IsJudgedAfter s.granted c.message.result.now c.as_slice.result.now message broken.items)
    (λ broken. IsNextIn s message → broken.items ≡ [])
    (λ broken h next.
    nothing_broken_after s.granted c.message.result.now c.as_slice.result.now message broken.items h (back next))
    c.judge_after.ensures.judged)

pub returns-in-Some-clause-judged : goal.returns-in-Some-clause-judged
returns-in-Some-clause-judged c =
    let s = outbox_of c.self.inside in
    let message = c.args.message.now in
    let before = c.in-Some.before.now in
    let last = last_is s.sent _ (Some before) c.deref.ensures.value c.in-Some.ensures.value in
    subst (λ (v : OutboxValue). IfOk c.judge_after.result (λ broken. IsJudgedNextIn v message broken.items)) c.self.view_is
    (IfOk-weaker c.judge_after.result
    (λ broken. IsJudgedAfter s.granted c.message.result.now c.as_slice.result.now message broken.items)
    (λ broken. IsJudgedNextIn s message broken.items)
    (λ broken h.
    let one = subst (λ (b : List ℕ). IsJudgedAfter s.granted b c.as_slice.result.now message broken.items) c.message.ensures h in
    let two = subst (λ (codes : List ℕ). IsJudgedAfter s.granted before.message codes message broken.items) c.as_slice.ensures.value one in
    subst (λ (o : Option HandedOnValue). IsJudgedAs s.granted o s.codes message broken.items) (sym last) two)
    c.judge_after.ensures.judged)

-- the message before was permitted, and so is a message
pub returns-in-Some-clause-unjudged : goal.returns-in-Some-clause-unjudged
returns-in-Some-clause-unjudged c =
    let s = outbox_of c.self.inside in
    let message = c.args.message.now in
    let before = c.in-Some.before.now in
    let last = last_is s.sent _ (Some before) c.deref.ensures.value c.in-Some.ensures.value in
    let front = take (length s.sent - 1) s.sent in
    let was =
    is_message s.granted (slice_get front (length front - 1)) before.heard before.message
    (c.self.invariant (length s.sent - 1) before last) in
    let earlier = subst (λ (b : List ℕ). IsMessage b was.0) (sym c.message.ensures) was.1 in
    subst (λ (v : OutboxValue). IfErr c.judge_after.result (λ f. IsHeldFor v message (Unjudged f))) c.self.view_is
    (IfErr-weaker c.judge_after.result (λ f. IsJudgeFaultAfter c.message.result.now message f)
    (λ f. IsHeldFor s message (Unjudged f))
    (λ f h. held_after s c.message.result.now message f (was.0, earlier) h) c.judge_after.ensures.refusal)

pub returns-in-Some-clause-memory_alone : goal.returns-in-Some-clause-memory_alone
returns-in-Some-clause-memory_alone c =
    let s = outbox_of c.self.inside in
    let message = c.args.message.now in
    let before = c.in-Some.before.now in
    let last = last_is s.sent _ (Some before) c.deref.ensures.value c.in-Some.ensures.value in
    let back = next_permitted s before message c.message.result.now c.as_slice.result.now last c.message.ensures c.as_slice.ensures.value in
    let front = take (length s.sent - 1) s.sent in
    let was =
    is_message s.granted (slice_get front (length front - 1)) before.heard before.message
    (c.self.invariant (length s.sent - 1) before last) in
    let earlier = subst (λ (b : List ℕ). IsMessage b was.0) (sym c.message.ensures) was.1 in
    subst (λ (v : OutboxValue). IsNextIn v message → IfErr c.judge_after.result (λ f. f ≡ Memory)) c.self.view_is
    (λ next.
    let p = back next in
    c.judge_after.ensures.memory_alone was.0 p.alone.message earlier p.alone.is)

-- ---- the first message

pub returns-in-None-clause-permitted : goal.returns-in-None-clause-permitted
returns-in-None-clause-permitted c =
    let s = outbox_of c.self.inside in
    let message = c.args.message.now in
    let last = last_is s.sent _ None c.deref.ensures.value c.in-None.ensures.value in
    subst (λ (v : OutboxValue). IfOk c.judge.result (λ broken. broken.items ≡ [] → IsNextIn v message)) c.self.view_is
    (IfOk-weaker c.judge.result (λ broken. IsJudged s.granted message broken.items) (λ broken. broken.items ≡ [] → IsNextIn s message)
    (λ broken h none.
    subst (λ (o : Option HandedOnValue). IsPermittedAfter s.granted o s.codes message) (sym last)
    (permitted s.granted message broken.items h none))
    c.judge.ensures.judged)

pub returns-in-None-clause-broken : goal.returns-in-None-clause-broken
returns-in-None-clause-broken c =
    let s = outbox_of c.self.inside in
    let message = c.args.message.now in
    let last = last_is s.sent _ None c.deref.ensures.value c.in-None.ensures.value in
    subst (λ (v : OutboxValue). IfOk c.judge.result (λ broken. IsNextIn v message → broken.items ≡ [])) c.self.view_is
    (IfOk-weaker c.judge.result (λ broken. IsJudged s.granted message broken.items) (λ broken. IsNextIn s message → broken.items ≡ [])
    (λ broken h next.
    nothing_broken s.granted message broken.items h
    (subst (λ (o : Option HandedOnValue). IsPermittedAfter s.granted o s.codes message) last next))
    c.judge.ensures.judged)

pub returns-in-None-clause-judged : goal.returns-in-None-clause-judged
returns-in-None-clause-judged c =
    let s = outbox_of c.self.inside in
    let message = c.args.message.now in
    let last = last_is s.sent _ None c.deref.ensures.value c.in-None.ensures.value in
    subst (λ (v : OutboxValue). IfOk c.judge.result (λ broken. IsJudgedNextIn v message broken.items)) c.self.view_is
    (IfOk-weaker c.judge.result (λ broken. IsJudged s.granted message broken.items)
    (λ broken. IsJudgedNextIn s message broken.items)
    (λ broken h. subst (λ (o : Option HandedOnValue). IsJudgedAs s.granted o s.codes message broken.items) (sym last) h)
    c.judge.ensures.judged)

pub returns-in-None-clause-unjudged : goal.returns-in-None-clause-unjudged
returns-in-None-clause-unjudged c =
    let s = outbox_of c.self.inside in
    let message = c.args.message.now in
    subst (λ (v : OutboxValue). IfErr c.judge.result (λ f. IsHeldFor v message (Unjudged f))) c.self.view_is
    (IfErr-weaker c.judge.result (λ f. IsJudgeFault message f) (λ f. IsHeldFor s message (Unjudged f))
    (held_first s message) c.judge.ensures.refusal)

pub returns-in-None-clause-memory_alone : goal.returns-in-None-clause-memory_alone
returns-in-None-clause-memory_alone c =
    let s = outbox_of c.self.inside in
    let message = c.args.message.now in
    let last = last_is s.sent _ None c.deref.ensures.value c.in-None.ensures.value in
    subst (λ (v : OutboxValue). IsNextIn v message → IfErr c.judge.result (λ f. f ≡ Memory)) c.self.view_is
    (λ next.
    let p = subst (λ (o : Option HandedOnValue). IsPermittedAfter s.granted o s.codes message) last next in
    c.judge.ensures.memory_alone p.message p.is)
