use Rattle.std.proofs.Common.{[], subst}
use Rattle.fints_rules_messages.specs.Messages.{Stops}
use Rattle.fints_rules_messages.specs.Front.{IsTail, BeginsBy, IsWholeBy, IsReadBy, TailIs}
use Rattle.fints_rules_messages.proofs.Numbers.{numbered_body}
use Rattle.fints_rules_messages.proofs.Wholes.{refused_first, refused_head, refused_tail, is_message}
use Rattle.fints_rules_messages.proofs.message.read_or_slip.Goals as goal

pub returns-in_default-clause-refusal : goal.returns-in_default-clause-refusal
returns-in_default-clause-refusal c = refused_first c.args.bytes.now c.in_default.ensures.none

pub returns-in_default-read_first-clause-refusal : goal.returns-in_default-read_first-clause-refusal
returns-in_default-read_first-clause-refusal c =
    refused_head c.args.bytes.now c.in-Some.first c.in-Some.len c.in-Some.ensures.some
    c.in_default-read_first.ensures.none

pub returns-in-Stop-clause-refusal : goal.returns-in-Stop-clause-refusal
returns-in-Stop-clause-refusal c =
    let n = c.in-Some-read_first.number in
    refused_tail c.args.bytes.now c.in-Some.len c.in-Stop.at n c.in-Some.first c.in-Some.ensures.some c.in-Some-read_first.ensures.some
    (subst (λ z. Stops (BeginsBy (IsTail n)) (IsWholeBy (IsTail n)) z c.in-Stop.at) c.split_at.ensures.back
    (subst (TailIs (IsTail n) [] c.split_at.result.1.now) c.in-Stop.is c.in_ok-at.ensures.tail))

pub invariant_of-result : goal.invariant_of-result
invariant_of-result c =
    let n = c.in-Some-read_first.number in
    let read : IsReadBy (IsTail n) [] c.split_at.result.1.now c.in-Whole.inner c.in-Whole.last =
    subst (TailIs (IsTail n) [] c.split_at.result.1.now) c.in-Whole.is c.in_ok-at.ensures.tail in (
      c.in-Some-read_first.ensures.some,
      numbered_body c.args.bytes.now _
          (is_message c.args.bytes.now c.in-Some.len n c.number_at-protocol.result c.in-Whole.inner
          c.in-Some.first c.in-Whole.last c.in-Some.ensures.some c.in-Some-read_first.ensures.some
          c.number_at-protocol.ensures
          (subst (λ z. IsReadBy (IsTail n) [] z c.in-Whole.inner c.in-Whole.last)
          c.split_at.ensures.back read)),
      read.sealed,
    )

pub returns-in-Whole-clause-message : goal.returns-in-Whole-clause-message
returns-in-Whole-clause-message c =
    let n = c.in-Some-read_first.number in
    is_message c.args.bytes.now c.in-Some.len n c.number_at-protocol.result c.in-Whole.inner c.in-Some.first
    c.in-Whole.last c.in-Some.ensures.some c.in-Some-read_first.ensures.some c.number_at-protocol.ensures
    (subst (λ z. IsReadBy (IsTail n) [] z c.in-Whole.inner c.in-Whole.last) c.split_at.ensures.back
    (subst (TailIs (IsTail n) [] c.split_at.result.1.now) c.in-Whole.is c.in_ok-at.ensures.tail))
