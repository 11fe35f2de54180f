-- Places of lists.
use Rattle.std.proofs.Common.{ℕ, zero, suc, ◌<◌, ◌≤◌, ◌≡◌, ◌≢◌, ◌⊎◌, List, [], ◌∷◌, length, get_or, slice_get, Some, refl, ap, sym, subst, ◌∙◌, arith, inl, inr}
use Rattle.std.proofs.lemmas.List.{length-set, get_or-set_same, get_or-set_other}
use Rattle.std.proofs.Math.ListN.{set}
use Rattle.std.specs.Prelude.{Any}
use Rattle.std.proofs.lemmas.Bool.{cases_lt}
use Rattle.std.proofs.lemmas.Option.{slice_get-get_or, slice_get_past, same_Some}

pub none_or_some : {X : Type 0} (xs : List X) → (xs ≡ []) ⊎ (0 < length xs)
none_or_some [] = inl refl
none_or_some (x ∷ xs) = inr (omega arith)

pub slice_there : {X : Type 0} (xs : List X) (i : ℕ) → i < length xs → (x : X) × (slice_get xs i ≡ Some x)
slice_there [] i h = absurd (omega (arith, h))
slice_there (x ∷ xs) zero h = (x, refl)
slice_there (x ∷ xs) (suc i) h = slice_there xs i (omega (arith, h))

pub there_of : {X : Type 0} (xs : List X) (i : ℕ) (x : X) → i < length xs → get_or xs i x ≡ x
    → slice_get xs i ≡ Some x
there_of xs i x lt at = slice_get-get_or xs i x lt ∙ ap (λ y. Some y) at

pub any_there : {X : Type 0} (P : X → Type 0) (xs : List X) (i : ℕ) (x : X) → slice_get xs i ≡ Some x → P x
    → Any P xs
any_there P [] i x h p = absurd cc
any_there P (y ∷ ys) zero x h p = let same : y ≡ x = same_Some y x h in (0, x, omega arith, same, p)
any_there P (y ∷ ys) (suc i) x h p = let r = any_there P ys i x h p in (suc r.0, r.1, omega (arith, r.2), r.3, r.4)

pub set_here : {X : Type 0} (xs : List X) (i : ℕ) (x : X) → i < length xs → slice_get (set xs i x) i ≡ Some x
set_here xs i x low =
    let within : i < length (set xs i x) = subst (λ (n : ℕ). i < n) (sym (length-set xs i x)) low in
    slice_get-get_or (set xs i x) i x within ∙ ap (λ y. Some y) (get_or-set_same xs i x x low)

pub set_elsewhere : {X : Type 0} (xs : List X) (i k : ℕ) (x : X) → k ≢ i
    → slice_get (set xs i x) k ≡ slice_get xs k
set_elsewhere xs i k x other =
    elim (cases_lt k (length xs)) [
      | inl within ↦
          let inside : k < length (set xs i x) = subst (λ (n : ℕ). k < n) (sym (length-set xs i x)) within in
          slice_get-get_or (set xs i x) k x inside ∙ (ap (λ y. Some y) (get_or-set_other xs i k x x other) ∙ sym (slice_get-get_or xs k x within))
      | inr past ↦ slice_get_past (set xs i x) k (subst (λ (n : ℕ). n ≤ k) (sym (length-set xs i x)) past) ∙ sym (slice_get_past xs k past)
    ]
