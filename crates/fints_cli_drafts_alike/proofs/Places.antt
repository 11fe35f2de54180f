-- What holds of each number, or of each place of two lists, holds of one more.
use Rattle.std.proofs.Common.{◌≡◌, inl, inr, ◌≤◌, ◌<◌, ◌+◌, ℕ, suc, subst, sym, arith, List, [], ◌∷◌, ◌++◌, length, take, get_or}
use Rattle.std.proofs.lemmas.Bool.Decides.{leb_tells}
use Rattle.std.proofs.lemmas.List.{take_more}
use Rattle.std.proofs.lemmas.Slice.Zip.{all_zipped_more}
use Rattle.std.specs.List.{AllZip}

-- below a bound that is one greater
pub one_below : (P : ℕ → Type 0) (least i n : ℕ) → ((m : ℕ) → least ≤ m → m < least + i → P m) → P (i + least)
    → least ≤ n → n < least + (i + 1) → P n
one_below P least i n before here from below =
    elim (leb_tells (suc n) (least + i)) [
      | inl t ↦ before n from (omega (arith, t.1))
      | inr t ↦ subst P (omega (arith, t.1, below)) here
    ]

-- of two lists one place more is alike
pub one_place : {A B : Type 0} → (R : A → B → Type 0) (xs : List A) (ys : List B) (i : ℕ) (x : A) (y : B)
    → i < length xs → i < length ys → AllZip R (take i xs) (take i ys) → R (get_or xs i x) (get_or ys i y)
    → AllZip R (take (i + 1) xs) (take (i + 1) ys)
one_place R xs ys i x y lx ly before here =
    subst (λ front. AllZip R front (take (i + 1) ys)) (sym (take_more xs i x lx))
    (subst (λ front. AllZip R (take i xs ++ get_or xs i x ∷ []) front) (sym (take_more ys i y ly))
    (all_zipped_more R (take i xs) (take i ys) (get_or xs i x) (get_or ys i y) before here))

-- the same, by the elements at that place
pub one_place_of : {A B : Type 0} → (R : A → B → Type 0) (xs : List A) (ys : List B) (i : ℕ) (x : A) (y : B)
    → i < length xs → i < length ys → x ≡ get_or xs i x → y ≡ get_or ys i y
    → AllZip R (take i xs) (take i ys) → R x y
    → AllZip R (take (i + 1) xs) (take (i + 1) ys)
one_place_of R xs ys i x y lx ly is_x is_y before here =
    one_place R xs ys i x y lx ly before (subst (λ u. R u (get_or ys i y)) is_x (subst (R x) is_y here))
