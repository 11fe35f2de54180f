use Rattle.std.proofs.Common.{[], ◌∷◌, subst}
use Rattle.fints_syntax.specs.Owned.{segment_of}
use Rattle.fints_rules_messages.specs.Messages.{Stops}
use Rattle.fints_rules_messages.specs.Front.{BeginsBy, IsWholeBy, IsReadBy, IsSealedRest, TailIs}
use Rattle.fints_rules_messages.proofs.Seals.{stops_seal_head, whole_seal_head}
use Rattle.fints_rules_messages.proofs.sealed.read_sealed.Goals as goal

pub returns-in-Whole-clause-tail : goal.returns-in-Whole-clause-tail
returns-in-Whole-clause-tail c = whole_seal_head c.args.tail.now c.args.len c.args.number c.in-Whole.inner c.args.head c.in-Whole.last c.requires.seal_head.is_next c.requires.seal_head.is_seal_head
    (subst
    (λ z. IsReadBy (IsSealedRest c.args.number) (segment_of c.args.head ∷ []) z c.in-Whole.inner c.in-Whole.last)
    c.split_at.ensures.back
    (subst (TailIs (IsSealedRest c.args.number) (segment_of c.args.head ∷ []) c.split_at.result.1.now) c.in-Whole.is
    c.in_ok-inner.ensures.rest))

pub returns-in-Stop-clause-tail : goal.returns-in-Stop-clause-tail
returns-in-Stop-clause-tail c = stops_seal_head c.args.tail.now c.args.len c.in-Stop.at c.args.number c.args.head c.requires.seal_head.is_next c.requires.seal_head.is_seal_head
    (subst
    (λ z.
    Stops (BeginsBy (IsSealedRest c.args.number)) (IsWholeBy (IsSealedRest c.args.number)) z
    c.in-Stop.at)
    c.split_at.ensures.back
    (subst (TailIs (IsSealedRest c.args.number) (segment_of c.args.head ∷ []) c.split_at.result.1.now) c.in-Stop.is
    c.in_ok-inner.ensures.rest))
