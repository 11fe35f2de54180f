-- What has a number in a list that counts from 1. What is known of it comes last, under a heading: only proofs cite that.
use Rattle.std.specs.Prelude.{◌≡◌, ℕ, zero, suc, ◌-◌, ◌<◌, ◌≤◌, List, [], ◌∷◌, length, slice_get, Option, Some, None}
use Rattle.std.specs.List.{All}
use Rattle.std.proofs.Common.{refl, subst, arith}
use Rattle.std.proofs.lemmas.List.Elements.{All-head, All-tail}
use Rattle.std.proofs.lemmas.Option.{same_Some, slice_get_within}

abbrev pub numbered : {X : Type 0} → List X → ℕ → Option X
numbered xs zero = None
numbered xs (suc i) = slice_get xs i

-- ---- what is known of it; nothing of this need be read to know what a contract says

slice_get_at : {X : Type 0} (xs : List X) (i : ℕ) → i < length xs → (x : X) × (slice_get xs i ≡ Some x)
slice_get_at [] i h = absurd (omega (arith, h))
slice_get_at (x ∷ xs) zero h = (x, refl)
slice_get_at (x ∷ xs) (suc i) h = slice_get_at xs i (omega (arith, h))

pub numbered_at : {X : Type 0} (xs : List X) (n : ℕ) → 1 ≤ n → n ≤ length xs
    → (x : X) × (numbered xs n ≡ Some x)
numbered_at xs zero low high = absurd (omega (arith, low))
numbered_at xs (suc i) low high = slice_get_at xs i (omega (arith, high))

pub numbered_within : {X : Type 0} (xs : List X) (n : ℕ) (x : X) → numbered xs n ≡ Some x
    → (1 ≤ n) × (n ≤ length xs)
numbered_within xs zero x h = absurd cc
numbered_within xs (suc i) x h =
    let l : i < length xs = slice_get_within xs i x h in (omega arith, omega (arith, l))

pub numbered_of : {X : Type 0} (xs : List X) (n : ℕ) (x : X) → 1 ≤ n → slice_get xs (n - 1) ≡ Some x
    → numbered xs n ≡ Some x
numbered_of xs zero x low h = absurd (omega (arith, low))
numbered_of xs (suc i) x low h =
    let back : suc i - 1 ≡ i = omega arith in subst (λ k. slice_get xs k ≡ Some x) back h

pub numbered_from : {X : Type 0} (xs : List X) (n : ℕ) (x : X) → numbered xs n ≡ Some x
    → slice_get xs (n - 1) ≡ Some x
numbered_from xs zero x h = absurd cc
numbered_from xs (suc i) x h =
    let back : i ≡ suc i - 1 = omega arith in subst (λ k. slice_get xs k ≡ Some x) back h

-- what holds of each element holds of what has a number
pub numbered_holds : {X : Type 0} (P : X → Type 0) (xs : List X) (n : ℕ) (x : X) → All P xs
    → numbered xs n ≡ Some x → P x
numbered_holds P xs zero x each h = absurd cc
numbered_holds P [] (suc i) x each h = absurd cc
numbered_holds P (y ∷ ys) (suc zero) x each h =
    let is : Some y ≡ Some x = h in subst P (same_Some y x is) (All-head P y ys each)
numbered_holds P (y ∷ ys) (suc (suc i)) x each h = numbered_holds P ys (suc i) x (All-tail P y ys each) h
