use Rattle.std.proofs.Common.{◌≡◌, drop, length, subst, false, true}
use Rattle.fints_rules_messages.specs.Front.{IsNextSegment, HasNoNext}
use Rattle.fints_rules_messages.proofs.Tails.{stop_none, closed}
use Rattle.fints_rules_messages.proofs.plain.read_tail.Goals as goal

pub returns-in_default-clause-tail : goal.returns-in_default-clause-tail
returns-in_default-clause-tail c =
    let i = c.in_ok-inner.inner in
    stop_none c.args.tail.now i.at c.args.number i.openers.items i.body.items i.ends.items c.requires
    c.in_ok-inner.ensures.front (subst HasNoNext c.split_at.ensures.back c.in_default.ensures.none)

pub returns-clause-tail : goal.returns-clause-tail
returns-clause-tail c =
    let i = c.in_ok-inner.inner in
    let next : IsNextSegment (drop i.at c.args.tail.now) c.in-Some.view c.in-Some.len =
    subst (λ z. IsNextSegment z c.in-Some.view c.in-Some.len) c.split_at.ensures.back
    c.in-Some.ensures.some in
    closed c.args.tail.now c.args.number c.in-Some.len i c.in-Some.view c.close.result c.requires
    c.in_ok-inner.ensures.front c.in_ok-inner.ensures.seal next c.in_ok-inner.ensures.stopped
    (λ at seal_head. let q : false ≡ true = c.if-is_seal_head_at.ensures.1 (at, seal_head) in cc)
    c.close.ensures
