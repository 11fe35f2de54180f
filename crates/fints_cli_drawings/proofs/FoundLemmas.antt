-- What was found of a step is together among findings in their order.
use Rattle.std.proofs.Common.{◌≡◌, ◌∙◌, ◌<◌, ◌≤◌, ◌+◌, ◌-◌, ℕ, zero, suc, Bool, true, false, cond, List, [], ◌∷◌, length, take, drop, refl, ap, sym, subst, inl, inr, arith}
use Rattle.std.specs.Prelude.{AllPairs}
use Rattle.std.specs.List.{AllWithin, slice_index_or, slice_range}
use Rattle.std.specs.List.Sorted.{IsNonDecreasingBy, IsPartitionPoint}
use Rattle.std.proofs.Math.Dec.{leb, ltb}
use Rattle.std.proofs.lemmas.Bool.{cases_lt, eq-eqb, leb-false, leb-true, ltb-false, ltb-true, ne_eqb}
use Rattle.fints_check_findings.specs.Findings.{IsBefore}
use Rattle.fints_check_findings.specs.declared.finding.Finding.{Finding}
use Rattle.fints_cli_drawings.specs.Picture.{found_at, is_found_at}

step_up : (f g : Finding) → IsBefore f g → f.step ≤ g.step
step_up f g (inl less) = omega (arith, less)
step_up f g (inr same) = omega (arith, same.0)

pub rising : (findings : List Finding) → AllPairs IsBefore findings
    → IsNonDecreasingBy (λ (f : Finding). f.step) findings
rising findings pairs i j d low high = elim (cases_lt i j) [
  | inl less ↦ step_up (slice_index_or findings i d) (slice_index_or findings j d) (pairs i j d less high)
  | inr ge ↦
      let same : i ≡ j = omega (arith, low, ge) in
      subst (λ k. (slice_index_or findings i d).step ≤ (slice_index_or findings k d).step) same (omega arith)
]

-- what the tests of the two searches say
pub below_from : (n : ℕ) (findings : List Finding) (i : ℕ)
    → IsPartitionPoint (λ (f : Finding). ltb f.step n ≡ true)
    (λ (f : Finding). ltb f.step n ≡ false) findings i
    → IsPartitionPoint (λ (f : Finding). f.step < n) (λ (f : Finding). n ≤ f.step) findings i
below_from n findings i h = (
  λ k d low high. ltb-true (slice_index_or findings k d).step n (h.0 k d low high),
  λ k d low high. ltb-false (slice_index_or findings k d).step n (h.1 k d low high),
)

pub up_to_from : (n : ℕ) (findings : List Finding) (i : ℕ)
    → IsPartitionPoint (λ (f : Finding). leb f.step n ≡ true)
    (λ (f : Finding). leb f.step n ≡ false) findings i
    → IsPartitionPoint (λ (f : Finding). f.step ≤ n) (λ (f : Finding). n < f.step) findings i
up_to_from n findings i h = (
  λ k d low high. leb-true (slice_index_or findings k d).step n (h.0 k d low high),
  λ k d low high. leb-false (slice_index_or findings k d).step n (h.1 k d low high),
)

-- the findings up to `from` are of steps before n, and those from `to` on of steps after it
pub record AreAround (n : ℕ) (findings : List Finding) (from to : ℕ) : Type 0 where
  pub below : AllWithin (λ (f : Finding). f.step < n) findings 0 from
  pub from_on : AllWithin (λ (f : Finding). n ≤ f.step) findings from (length findings)
  pub up_to : AllWithin (λ (f : Finding). f.step ≤ n) findings 0 to
  pub above : AllWithin (λ (f : Finding). n < f.step) findings to (length findings)

filter_skips : (n : ℕ) (f : Finding) (fs : List Finding) → is_found_at n f ≡ false
    → found_at n (f ∷ fs) ≡ found_at n fs
filter_skips n f fs fails = ap (λ (b : Bool). cond b (f ∷ found_at n fs) (found_at n fs)) fails

filter_takes : (n : ℕ) (f : Finding) (fs : List Finding) → is_found_at n f ≡ true
    → found_at n (f ∷ fs) ≡ f ∷ found_at n fs
filter_takes n f fs passes = ap (λ (b : Bool). cond b (f ∷ found_at n fs) (found_at n fs)) passes

abbrev nothing : List Finding
nothing = []

drop_none : (from : ℕ) → drop from nothing ≡ []
drop_none zero = refl
drop_none (suc from) = refl

take_none : (count : ℕ) → take count nothing ≡ []
take_none zero = refl
take_none (suc count) = refl

around : (n : ℕ) (findings : List Finding) (from count to : ℕ) → to ≡ from + count
    → AreAround n findings from to → to ≤ length findings
    → found_at n findings ≡ take count (drop from findings)
around n [] from count to e a high = sym (ap (take count) (drop_none from) ∙ take_none count)
around n (f ∷ fs) zero zero to e a high =
    let later : n < f.step = a.above 0 f (omega (arith, e)) (omega arith) in
    filter_skips n f fs (ne_eqb f.step n (λ is. omega (arith, is, later)))
    ∙ around n fs zero zero to e (record {
      below = λ k d lo hi. absurd (omega (arith, hi));
      from_on = λ k d lo hi. a.from_on (suc k) d (omega arith) (omega (arith, hi));
      up_to = λ k d lo hi. absurd (omega (arith, hi, e));
      above = λ k d lo hi. a.above (suc k) d (omega (arith, e)) (omega (arith, hi));
    }) (omega (arith, e))
around n (f ∷ fs) zero (suc count) to e a high =
    let least : n ≤ f.step = a.from_on 0 f (omega arith) (omega arith) in
    let most : f.step ≤ n = a.up_to 0 f (omega arith) (omega (arith, e)) in
    filter_takes n f fs (eq-eqb f.step n (omega (arith, least, most)))
    ∙ ap (λ (gs : List Finding). f ∷ gs) (around n fs zero count count (omega arith) (record {
      below = λ k d lo hi. absurd (omega (arith, hi));
      from_on = λ k d lo hi. a.from_on (suc k) d (omega arith) (omega (arith, hi));
      up_to = λ k d lo hi. a.up_to (suc k) d (omega arith) (omega (arith, hi, e));
      above = λ k d lo hi. a.above (suc k) d (omega (arith, lo, e)) (omega (arith, hi));
    }) (omega (arith, high, e)))
around n (f ∷ fs) (suc from) count to e a high =
    let earlier : f.step < n = a.below 0 f (omega arith) (omega arith) in
    filter_skips n f fs (ne_eqb f.step n (λ is. omega (arith, is, earlier)))
    ∙ around n fs from count (from + count) (omega arith) (record {
      below = λ k d lo hi. a.below (suc k) d (omega arith) (omega (arith, hi));
      from_on = λ k d lo hi. a.from_on (suc k) d (omega (arith, lo)) (omega (arith, hi));
      up_to = λ k d lo hi. a.up_to (suc k) d (omega arith) (omega (arith, hi, e));
      above = λ k d lo hi. a.above (suc k) d (omega (arith, lo, e)) (omega (arith, hi));
    }) (omega (arith, high, e))

pub ordered : (n : ℕ) (findings : List Finding) (from to : ℕ) → AreAround n findings from to
    → from ≤ length findings → from ≤ to
ordered n findings from to a high = elim (cases_lt to from) [
  | inr ge ↦ ge
  | inl less ↦ absurd (one findings to less high a)
]
  where
    one : (fs : List Finding) (k : ℕ) → k < from → from ≤ length fs → AreAround n fs from k → ⊥
    one [] k less high a = omega (arith, less, high)
    one (f ∷ fs) k less high a =
        let early : (slice_index_or (f ∷ fs) k f).step < n = a.below k f (omega arith) less in
        let late : n < (slice_index_or (f ∷ fs) k f).step = a.above k f (omega arith) (omega (arith, less, high)) in
        omega (arith, early, late)

pub found_between : (n : ℕ) (findings : List Finding) (from to : ℕ)
    → IsPartitionPoint (λ (f : Finding). f.step < n) (λ (f : Finding). n ≤ f.step) findings from
    → IsPartitionPoint (λ (f : Finding). f.step ≤ n) (λ (f : Finding). n < f.step) findings to
    → from ≤ length findings → to ≤ length findings
    → (from ≤ to) × (found_at n findings ≡ slice_range findings from to)
found_between n findings from to lower upper within last =
    let a : AreAround n findings from to = record { below = lower.0; from_on = lower.1; up_to = upper.0; above = upper.1 } in
    let low = ordered n findings from to a within in
    (low, around n findings from (to - from) to (omega (arith, low)) a last)
