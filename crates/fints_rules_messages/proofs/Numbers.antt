-- The numbers of a message's body.
use Rattle.std.proofs.Common.{◌≡◌, ℕ, suc, ◌+◌, List, [], ◌∷◌, ◌++◌, length, subst, arith}
use Rattle.fints_syntax_segments.specs.declared.item.OwnedSegment.{OwnedSegment}
use Rattle.fints_rules_messages.specs.Messages.{MessageView, IsMessage, IsInner, IsNumbered}
use Rattle.fints_rules_messages.proofs.Forms.{numbered_front}

numbered_back : (n : ℕ) (xs ys : List OwnedSegment) → IsNumbered n (xs ++ ys) → IsNumbered (n + length xs) ys
numbered_back n [] ys h = let e : n ≡ n + 0 = omega arith in subst (λ k. IsNumbered k ys) e h
numbered_back n (x ∷ xs) ys h =
    let e : (n + 1) + length xs ≡ n + suc (length xs) = omega arith in subst (λ k. IsNumbered k ys) e
    (numbered_back (n + 1) xs ys h.1)

numbered_inner : (inner body ends : List OwnedSegment) → IsInner inner body ends → IsNumbered 2 inner
    → IsNumbered (2 + length ends) body
numbered_inner inner body ends i h =
    let together : IsNumbered 2 (i.openers ++ (body ++ ends)) = subst (IsNumbered 2) i.together h in
    let after = numbered_back 2 i.openers (body ++ ends) together in
    subst (λ k. IsNumbered (2 + k) body) i.as_many (numbered_front (2 + length i.openers) body ends after)

pub numbered_body : (bytes : List ℕ) (m : MessageView) → IsMessage bytes m
    → IsNumbered (2 + length m.ends) m.body
numbered_body bytes m h = numbered_inner m.inner m.body m.ends h.form.is_inner (numbered_front 2 m.inner (m.last ∷ []) h.form.numbered)
