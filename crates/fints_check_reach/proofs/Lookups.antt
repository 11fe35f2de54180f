-- Lists that count from 1, and grow at their end.
use Rattle.std.proofs.Common.{ℕ, suc, zero, ◌+◌, ◌-◌, ◌<◌, ◌≤◌, ◌≡◌, ◌⊎◌, Some, List, [], ◌∷◌, ◌++◌, length, get_or, set, refl, ap, sym, subst, ◌∙◌, arith, inl, inr}
use Rattle.std.specs.List.{slice_get}
use Rattle.std.proofs.lemmas.Option.{same_Some, slice_get-get_or}
use Rattle.fints_script.specs.Numbered.{numbered}

slice_get_push_here : {X : Type 0} (xs : List X) (y : X) (k : ℕ) → k ≡ length xs
    → slice_get (xs ++ y ∷ []) k ≡ Some y
slice_get_push_here [] y zero h = refl
slice_get_push_here [] y (suc k) h = absurd (omega (arith, h))
slice_get_push_here (x ∷ xs) y zero h = absurd (omega (arith, h))
slice_get_push_here (x ∷ xs) y (suc k) h = slice_get_push_here xs y k (omega (arith, h))

slice_get_push_old : {X : Type 0} (xs : List X) (y : X) (k : ℕ) (x : X) → slice_get xs k ≡ Some x
    → slice_get (xs ++ y ∷ []) k ≡ Some x
slice_get_push_old [] y k x h = absurd cc
slice_get_push_old (z ∷ xs) y zero x h = h
slice_get_push_old (z ∷ xs) y (suc k) x h = slice_get_push_old xs y k x h

pub slice_get_push_cases : {X : Type 0} (xs : List X) (y : X) (k : ℕ) (x : X)
    → slice_get (xs ++ y ∷ []) k ≡ Some x → (slice_get xs k ≡ Some x) ⊎ ((k ≡ length xs) × (y ≡ x))
slice_get_push_cases [] y zero x h = inr (refl, same_Some y x h)
slice_get_push_cases [] y (suc k) x h = absurd cc
slice_get_push_cases (z ∷ xs) y zero x h = inl h
slice_get_push_cases (z ∷ xs) y (suc k) x h =
    elim (slice_get_push_cases xs y k x h) [ inl old ↦ inl old | inr new ↦ inr (ap suc new.0, new.1) ]

pub numbered_push_here : {X : Type 0} (xs : List X) (y : X) (n : ℕ) → n ≡ length xs + 1
    → numbered (xs ++ y ∷ []) n ≡ Some y
numbered_push_here xs y zero h = absurd (omega (arith, h))
numbered_push_here xs y (suc k) h = slice_get_push_here xs y k (omega (arith, h))

pub numbered_push_old : {X : Type 0} (xs : List X) (y : X) (n : ℕ) (x : X) → numbered xs n ≡ Some x
    → numbered (xs ++ y ∷ []) n ≡ Some x
numbered_push_old xs y zero x h = h
numbered_push_old xs y (suc k) x h = slice_get_push_old xs y k x h

pub numbered_push_cases : {X : Type 0} (xs : List X) (y : X) (n : ℕ) (x : X)
    → numbered (xs ++ y ∷ []) n ≡ Some x → (numbered xs n ≡ Some x) ⊎ ((n ≡ length xs + 1) × (y ≡ x))
numbered_push_cases xs y zero x h = absurd cc
numbered_push_cases xs y (suc k) x h =
    elim (slice_get_push_cases xs y k x h) [ inl old ↦ inl old | inr new ↦ inr (omega (arith, new.0), new.1) ]

-- what an index reads
pub numbered_read : {X : Type 0} (xs : List X) (n : ℕ) (x : X) → 1 ≤ n → n ≤ length xs
    → x ≡ get_or xs (n - 1) x → numbered xs n ≡ Some x
numbered_read xs zero x low high h = absurd (omega arith)
numbered_read xs (suc k) x low high h =
    let same : suc k - 1 ≡ k = omega arith in
    let less : k < length xs = omega arith in
    slice_get-get_or xs k x less ∙ ap (λ y. Some y) (sym (subst (λ j. x ≡ get_or xs j x) same h))

-- ---- a list with one element put in another's place

pub slice_get_set_here : {X : Type 0} (xs : List X) (k : ℕ) (y : X) → k < length xs
    → slice_get (set xs k y) k ≡ Some y
slice_get_set_here [] k y less = absurd (omega (arith, less))
slice_get_set_here (x ∷ xs) zero y less = refl
slice_get_set_here (x ∷ xs) (suc k) y less = slice_get_set_here xs k y (omega (arith, less))

pub slice_get_set_other : {X : Type 0} (xs : List X) (k j : ℕ) (y : X) → (j ≡ k → ⊥)
    → slice_get (set xs k y) j ≡ slice_get xs j
slice_get_set_other [] k j y other = refl
slice_get_set_other (x ∷ xs) zero zero y other = absurd (other refl)
slice_get_set_other (x ∷ xs) zero (suc j) y other = refl
slice_get_set_other (x ∷ xs) (suc k) zero y other = refl
slice_get_set_other (x ∷ xs) (suc k) (suc j) y other = slice_get_set_other xs k j y (λ e. other (ap suc e))

pub numbered_set_here : {X : Type 0} (xs : List X) (n : ℕ) (y : X) → 1 ≤ n → n ≤ length xs
    → numbered (set xs (n - 1) y) n ≡ Some y
numbered_set_here xs zero y low high = absurd (omega (arith, low))
numbered_set_here xs (suc k) y low high =
    let back : k ≡ suc k - 1 = omega arith in
    subst (λ j. slice_get (set xs j y) k ≡ Some y) back (slice_get_set_here xs k y (omega (arith, high)))

pub numbered_set_other : {X : Type 0} (xs : List X) (n k : ℕ) (y : X) → 1 ≤ n → (k ≡ n → ⊥)
    → numbered (set xs (n - 1) y) k ≡ numbered xs k
numbered_set_other xs n zero y low other = refl
numbered_set_other xs n (suc k) y low other = slice_get_set_other xs (n - 1) k y (λ e. other (omega (arith, e, low)))
