-- What `strip_prefix` finds, as lists.
use Rattle.std.specs.Prelude.{IfSome, IfNone}
use Rattle.std.proofs.Common.{Bor, MatchOption, take, drop, nat_eq, ℕ, ◌+◌, ◌≡◌, ◌≢◌, false, true, Option, Some, None, List, ◌++◌, length, refl, sym, subst}
use Rattle.std.proofs.lemmas.List.{take_at, take-append-drop}
use Rattle.std.specs.Cmp.Lexicographic.{pointwise, same_text, other_text}

-- what std says of it
abbrev pub Strips : List ℕ → List ℕ → Option (Bor (List ℕ)) → Type 0
Strips text front found =
    MatchOption found (pointwise nat_eq (take (length front) text) front ≡ false)
    (λ x.
    (pointwise nat_eq (take (length front) text) front ≡ true) × (x.now ≡ drop (length front) text)
    × (length x.now + length front ≡ length text))

pub strip_some : (text front : List ℕ) (found : Option (Bor (List ℕ))) → Strips text front found
    → IfSome found (λ rest. text ≡ front ++ rest.now)
strip_some text front None h = tt
strip_some text front (Some x) h =
    let same : take (length front) text ≡ front = same_text _ _ (sym h.0) in
    let whole : take (length front) text ++ drop (length front) text ≡ text = take-append-drop (length front) text in
    subst (λ (t : List ℕ). text ≡ front ++ t) (sym h.1) (subst (λ (t : List ℕ). text ≡ t ++ drop (length front) text) same (sym whole))

pub strip_none : (text front : List ℕ) (found : Option (Bor (List ℕ))) → Strips text front found
    → IfNone found ((rest : List ℕ) → text ≢ front ++ rest)
strip_none text front None h =
    λ rest e.
    other_text (take (length front) text) front (sym h)
    (subst (λ (t : List ℕ). take (length front) t ≡ front) (sym e)
    (take_at front rest (length front) refl))
strip_none text front (Some x) h = tt
