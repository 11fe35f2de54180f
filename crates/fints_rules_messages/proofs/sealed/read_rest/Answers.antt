use Rattle.std.proofs.Common.{◌≡◌, Some, IfOk, drop, subst}
use Rattle.fints_syntax.specs.Owned.{segment_of, segments_of}
use Rattle.fints_rules_messages.specs.Front.{IsNextSegment, HasNoNext, IsOpened, EnvelopeIs}
use Rattle.fints_rules_messages.proofs.Seals.{stop_first, stop_closed, stop_envelope, closed_rest}
use Rattle.fints_syntax.proofs.LawLemmas.{one_segment_text}
use Rattle.fints_rules_messages.proofs.sealed.read_rest.Goals as goal

pub returns-in_default-clause-rest : goal.returns-in_default-clause-rest
returns-in_default-clause-rest c = stop_first c.args.rest.now c.args.number c.requires c.in_default.ensures.none

pub returns-in-Err-clause-rest : goal.returns-in-Err-clause-rest
returns-in-Err-clause-rest c =
    stop_closed c.args.rest.now c.in-Some.len c.args.number c.in-Some.view c.requires c.in-Some.ensures.some
    (subst (λ o. EnvelopeIs o (segment_of c.in-Some.view)) c.in-Err.is
    c.in_ok-inner.ensures.envelope)

pub returns-in_default-next_segment-clause-rest : goal.returns-in_default-next_segment-clause-rest
returns-in_default-next_segment-clause-rest c =
    let i = c.in-Ok.inner in
    let o : IsOpened (segment_of c.in-Some.view) i =
    subst (λ o. EnvelopeIs o (segment_of c.in-Some.view)) c.in-Ok.is c.in_ok-inner.ensures.envelope in
    let none : HasNoNext (drop c.in-Some.len c.args.rest.now) = subst HasNoNext c.split_at.ensures.back c.in_default-next_segment.ensures.none in
    stop_envelope one_segment_text c.args.rest.now c.in-Some.len c.args.number i c.in-Some.view c.requires c.in-Some.ensures.some o (λ u more is e _. none u more is e)

pub returns-clause-rest : goal.returns-clause-rest
returns-clause-rest c =
    let i = c.in-Ok.inner in
    let o : IsOpened (segment_of c.in-Some.view) i =
    subst (λ o. EnvelopeIs o (segment_of c.in-Some.view)) c.in-Ok.is c.in_ok-inner.ensures.envelope in
    let g : IsNextSegment (drop c.in-Some.len c.args.rest.now) c.in-Some-next_segment.last
    c.in-Some-next_segment.n =
    subst (λ z. IsNextSegment z c.in-Some-next_segment.last c.in-Some-next_segment.n)
    c.split_at.ensures.back c.in-Some-next_segment.ensures.some in
    closed_rest one_segment_text c.args.rest.now c.in-Some.len c.in-Some-next_segment.n c.args.number i
    c.args.head c.in-Some.view c.in-Some-next_segment.last c.close.result c.requires c.in-Some.ensures.some o
    (subst (λ o. IfOk o (λ x. x.seal ≡ Some (record { head = c.args.head; envelope = c.in-Some.view }))) c.in-Ok.is c.in_ok-inner.ensures.seal)
    g c.close.ensures
