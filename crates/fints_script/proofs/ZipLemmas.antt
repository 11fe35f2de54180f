-- Two lists side by side, place by place.
use Rattle.std.proofs.Common.{◌≡◌, ℕ, ◌+◌, ◌<◌, ◌≤◌, List, length, get_or, All, ap, subst, sym, ◌∙◌, inl, inr, arith}
use Rattle.std.specs.List.{zip}
use Rattle.std.proofs.Math.Nat.{le-min, min-le_left}
use Rattle.std.proofs.lemmas.Bool.{cases_lt}
use Rattle.std.proofs.lemmas.List.{get_or_default}
use Rattle.std.proofs.lemmas.Slice.Zip.{get_or-zip, length-zip}

module _ {A B : Type 0} (R : A → B → Type 0) (xs : List A) (ys : List B) where
  pair_is : (x y : A) (z w : B) → x ≡ y → z ≡ w → ◌≡◌ {A = A × B} (x, z) (y, w)
  pair_is x y z w e f = ap (λ (t : A). (t, z)) e ∙ ap (λ (t : B). (y, t)) f

  here : (i : ℕ) (x : A) (y : B) (d : A × B) → i < length xs → i < length ys → x ≡ get_or xs i x
      → y ≡ get_or ys i y → ◌≡◌ {A = A × B} (get_or (zip xs ys) i d) (x, y)
  here i x y d h k at_x at_y = get_or-zip xs ys i d h k ∙ pair_is _ _ _ _ (get_or_default xs i d.0 x h ∙ sym at_x) (get_or_default ys i d.1 y k ∙ sym at_y)

  pub zip_more : (i : ℕ) (x : A) (y : B) → i < length xs → i < length ys → x ≡ get_or xs i x
      → y ≡ get_or ys i y → R x y
      → ((k : ℕ) (d : A × B) → k < i → R (get_or (zip xs ys) k d).0 (get_or (zip xs ys) k d).1)
      → (k : ℕ) (d : A × B) → k < i + 1 → R (get_or (zip xs ys) k d).0 (get_or (zip xs ys) k d).1
  zip_more i x y h g at_x at_y r earlier k d lt = elim (cases_lt k i) [
    | inl less ↦ earlier k d less
    | inr ge ↦
        let same : k ≡ i = omega (arith, lt, ge) in
        subst (λ (p : A × B). R p.0 p.1) (sym (ap (λ n. get_or (zip xs ys) n d) same ∙ here i x y d h g at_x at_y)) r
  ]

  pub zip_at : (i : ℕ) (x : A) (y : B) → i < length xs → i < length ys → x ≡ get_or xs i x → y ≡ get_or ys i y
      → All (λ (p : A × B). R p.0 p.1) (zip xs ys) → R x y
  zip_at i x y h g at_x at_y all =
      let far : i < length (zip xs ys) = subst (λ n. i < n) (sym (length-zip xs ys)) (le-min h g) in
      subst (λ (p : A × B). R p.0 p.1) (here i x y (x, y) h g at_x at_y) (all i (x, y) far)

  pub zip_all : (n : ℕ) → length xs ≤ n
      → ((k : ℕ) (d : A × B) → k < n → R (get_or (zip xs ys) k d).0 (get_or (zip xs ys) k d).1)
      → All (λ (p : A × B). R p.0 p.1) (zip xs ys)
  zip_all n h each k d lt = each k d (omega (arith, h, subst (λ m. k < m) (length-zip xs ys) lt, min-le_left (length xs) (length ys)))
