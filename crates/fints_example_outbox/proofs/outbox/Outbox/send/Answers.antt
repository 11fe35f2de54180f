use Rattle.std.proofs.Common.{◌∙◌, ℕ, List, sym, subst}
use Rattle.fints_example_outbox.specs.Inside.{outbox_of}
use Rattle.fints_example_outbox.specs.Outboxes.{EachWasPermitted, IsNextIn, OutboxValue, HandedOnValue, with_sent}
use Rattle.fints_example_outbox.proofs.Judging.{each_more, nothing}
use Rattle.fints_example_outbox.proofs.outbox.Outbox.send.Goals as goal

pub invariant_of-self-2 : goal.invariant_of-self-2
invariant_of-self-2 c =
    let o = outbox_of c.self.inside in
    let message = c.args.message.now in
    let one : HandedOnValue = record { message = message; heard = o.codes } in
    let none = sym c.as_slice.ensures.value ∙ nothing c.as_slice.result.now (sym c.is_empty.ensures ∙ c.if-not-is_empty.false) in
    let next = subst (λ (v : OutboxValue). IsNextIn v message) (sym c.self.view_is) (c.in_ok-broken.ensures.permitted none) in
    let each = each_more o.granted o.sent one c.self.invariant next in
    let kept = subst (λ (heard : List ℕ). EachWasPermitted o.granted (with_sent o.sent message heard)) (sym c.as_slice-2.ensures.value) each in
    subst (EachWasPermitted o.granted) (sym c.in_ok-keep.ensures.kept) kept
