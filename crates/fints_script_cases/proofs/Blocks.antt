-- Blocks of codes that patterns match or miss, and what is left below their ends.
use Rattle.std.proofs.Common.{ℕ, zero, suc, ◌+◌, ◌-◌, ◌*◌, ◌/◌, ◌%◌, ◌<◌, ◌≤◌, ◌≡◌, ◌≢◌, Bool, true, false, ◌&&◌, eqb, Option, Some, None, IsTrue, List, [], ◌∷◌, ◌++◌, length, take, get_or, slice_get, refl, ap, sym, subst, ◌∙◌, arith, inl, inr}
use Rattle.std.proofs.lemmas.Bool.{cases_Bool, cases_lt, both_ways, false_from_ne_true}
use Rattle.std.proofs.lemmas.List.{get_or_default}
use Rattle.std.proofs.lemmas.List.Folds.{list_any-from_Any}
use Rattle.std.proofs.lemmas.Option.{same_Some, none-some, slice_get_cases}
use Rattle.std.proofs.Math.Bool.{and-false}
use Rattle.std.proofs.Math.Nat.{div-div-eq-div-mul, div-eq_of_lt-le, div-mul-le_self, div-one}
use Rattle.std.specs.List.{All, list_all, list_any, zip}
use Rattle.std.specs.Option.{ForSome, MatchOption}
use Rattle.fints_script_cases.specs.Answers.{IsOpener}
use Rattle.fints_script_cases.specs.CodeBlocks.{HasFree, IsBarren, MatchesByBlocks, MissesBlock, size_at, has_digit}
use Rattle.fints_script_cases.specs.Patterns.{code_text, fits, matches}
use Rattle.fints_script_cases.specs.declared.answers.Branch.{Branch}

-- ---- one pattern

-- what is the same up to a place is the same up to the one before it
coarser : (n m s k : ℕ) → n / s ≡ m / s → n / (s * k) ≡ m / (s * k)
coarser n m s k e = sym (div-div-eq-div-mul n s k) ∙ ap (λ (q : ℕ). q / k) e ∙ div-div-eq-div-mul m s k

-- a pattern has four places
record Four (p : List ℕ) : Type 0 where
  pub x : ℕ
  pub y : ℕ
  pub z : ℕ
  pub w : ℕ
  pub is : x ∷ y ∷ z ∷ w ∷ [] ≡ p

four : (p : List ℕ) → length p ≡ 4 → Four p
four [] len = absurd (omega (arith, len))
four (x ∷ []) len = absurd (omega (arith, len))
four (x ∷ y ∷ []) len = absurd (omega (arith, len))
four (x ∷ y ∷ z ∷ []) len = absurd (omega (arith, len))
four (x ∷ y ∷ z ∷ w ∷ []) len = record { x = x; y = y; z = z; w = w; is = refl }
four (x ∷ y ∷ z ∷ w ∷ v ∷ p) len = absurd (omega (arith, len))

hundreds : (x y z w : ℕ) → z ≡ 42 → w ≡ 42 → MatchesByBlocks (x ∷ y ∷ z ∷ w ∷ []) 100
hundreds x y z w c d n m e =
    let e1 : n / 1000 ≡ m / 1000 = coarser n m 100 10 e in
    rw (c, d, e, e1) refl

every : (x y z w : ℕ) → x ≡ 42 → y ≡ 42 → z ≡ 42 → w ≡ 42 → MatchesByBlocks (x ∷ y ∷ z ∷ w ∷ []) 10000
every x y z w a b c d n m e = rw (a, b, c, d) refl

-- a digit that doesn't fit its place
misses : (x y z w place n : ℕ) → place < 4
    → fits (get_or (x ∷ y ∷ z ∷ w ∷ []) place 0) (get_or (code_text n) place 0) ≡ false
    → MissesBlock (x ∷ y ∷ z ∷ w ∷ []) n (size_at place)
misses x y z w zero n lt h other e = rw (e, h) refl
misses x y z w (suc zero) n lt h other e = rw (e, h) (and-false (fits x (48 + other / 1000)))
misses x y z w (suc (suc zero)) n lt h other e = rw (e, h, and-false) (and-false (fits x (48 + other / 1000)))
misses x y z w (suc (suc (suc zero))) n lt h other e =
    let same : other ≡ n = sym (div-one other) ∙ e ∙ div-one n in
    rw (same, h, and-false, and-false) (and-false (fits x (48 + n / 1000)))
misses x y z w (suc (suc (suc (suc place)))) n lt h other e = absurd (omega (arith, lt))

-- a digit that fits at each place
pub fits_all : (p : List ℕ) (n : ℕ) → length p ≡ 4
    → ((k : ℕ) → k < 4 → fits (get_or p k 0) (get_or (code_text n) k 0) ≡ true) → matches p n ≡ true
fits_all p n len each =
    let f = four p len in
    let at : (k : ℕ) → k < 4
    → fits (get_or (f.x ∷ f.y ∷ f.z ∷ f.w ∷ []) k 0) (get_or (code_text n) k 0) ≡ true =
    λ k lt. ap (λ (q : List ℕ). fits (get_or q k 0) (get_or (code_text n) k 0)) f.is ∙ each k lt in
    let a = at 0 (omega arith) in
    let b = at 1 (omega arith) in
    let c = at 2 (omega arith) in
    let d = at 3 (omega arith) in
    subst (λ (q : List ℕ). matches q n ≡ true) f.is (rw (a, b, c, d) refl)

-- ---- the digit before another

-- a pattern that doesn't single out the digit e there matches no fewer codes with another digit in its place
untold : (p u v : List ℕ) (e x : ℕ)
    → (list_all (λ (q : ℕ × ℕ). fits q.0 q.1) (zip (take (length u) p) u) && eqb (get_or p (length u) 0) e)
    ≡ false
    → list_all (λ (q : ℕ × ℕ). fits q.0 q.1) (zip p (u ++ x ∷ v)) ≡ false
    → list_all (λ (q : ℕ × ℕ). fits q.0 q.1) (zip p (u ++ e ∷ v)) ≡ false
untold [] u v e x h miss = absurd (let no : true ≡ false = miss in cc)
untold (y ∷ p) [] v e x h miss = elim (cases_Bool (eqb y 42)) [
  | inl s ↦ let rest = rw s at miss in rw s rest
  | inr s ↦ rw (s, h) refl
]
untold (y ∷ p) (t ∷ u) v e x h miss = elim (cases_Bool (fits y t)) [
  | inl s ↦ let told = rw s at h in let rest = rw s at miss in rw s (untold p u v e x told rest)
  | inr s ↦ rw s refl
]

-- a pattern with `*` there matches the same
free_there : (p u v : List ℕ) (e x : ℕ) → get_or p (length u) 0 ≡ 42
    → list_all (λ (q : ℕ × ℕ). fits q.0 q.1) (zip p (u ++ x ∷ v)) ≡ true
    → list_all (λ (q : ℕ × ℕ). fits q.0 q.1) (zip p (u ++ e ∷ v)) ≡ true
free_there [] u v e x star hit = refl
free_there (y ∷ p) [] v e x star hit = let rest = rw star at hit in rw star rest
free_there (y ∷ p) (t ∷ u) v e x star hit = elim (cases_Bool (fits y t)) [
  | inl s ↦ let rest = rw s at hit in rw s (free_there p u v e x star rest)
  | inr s ↦ absurd (let no : false ≡ true = rw s at hit in cc)
]

-- ---- branches

in_block : (n m s : ℕ) → n ≤ m → m < (n / s + 1) * s → m / s ≡ n / s
in_block n m s low high =
    let start = div-mul-le_self n s in
    div-eq_of_lt-le {k = n / s} s {m = m} (omega arith) high

-- a block in which no code opens the branch
pub barren_by : (branches : List Branch) (b n s : ℕ) → 1 ≤ s → s ≤ 10000
    → ((other : ℕ) → other / s ≡ n / s → IsOpener branches b other → ⊥) → IsBarren branches b n s
barren_by branches b n s some most block = record {
  some = some;
  most = most;
  none = λ before code small o. elim (cases_lt code n) [
    | inl h ↦ before code h o
    | inr h ↦ block code (in_block n code s h small) o
  ];
}

pub missed_barren : (branches : List Branch) (b n s : ℕ) (own : Branch)
    → slice_get branches (b - 1) ≡ Some own → 1 ≤ s → s ≤ 10000 → MissesBlock own.on n s
    → IsBarren branches b n s
missed_barren branches b n s own is some most misses = barren_by branches b n s some most (λ other same o. both_ways _ (misses other same) (o.here own is))

pub taken_barren : (branches : List Branch) (b n s k : ℕ) (e d : Branch) → k < length (take (b - 1) branches)
    → e ≡ get_or (take (b - 1) branches) k d → 1 ≤ s → s ≤ 10000 → MatchesByBlocks e.on s
    → matches e.on n ≡ true → IsBarren branches b n s
taken_barren branches b n s k e d lt is some most alike hit =
    barren_by branches b n s some most
    (λ other same o.
    both_ways (matches e.on other)
    (subst (λ (x : Branch). matches x.on other ≡ false) (sym is) (o.first k d lt))
    (alike other n same ∙ hit))

-- ---- a lower code

digits_text : (a b c d : ℕ) → b < 10 → c < 10 → d < 10
    → code_text (1000 * a + 100 * b + 10 * c + d) ≡ (48 + a) ∷ (48 + b) ∷ (48 + c) ∷ (48 + d) ∷ []
digits_text a b c d lb lc ld =
    let n : ℕ = 1000 * a + 100 * b + 10 * c + d in
    let qa : n / 1000 ≡ a = div-eq_of_lt-le {k = a} 1000 {m = n} (omega arith) (omega arith) in
    let qb : n / 100 ≡ 10 * a + b = div-eq_of_lt-le {k = 10 * a + b} 100 {m = n} (omega arith) (omega arith) in
    let qc : n / 10 ≡ 100 * a + 10 * b + c = div-eq_of_lt-le {k = 100 * a + 10 * b + c} 10 {m = n} (omega arith) (omega arith) in
    let rb : (10 * a + b) % 10 ≡ b = omega arith in
    let rc : (100 * a + 10 * b + c) % 10 ≡ c = omega arith in
    let rd : n % 10 ≡ d = omega arith in
    rw (qa, qb, qc, rb, rc, rd) refl

whole : (n : ℕ) → n ≡ 1000 * (n / 1000) + 100 * ((n / 100) % 10) + 10 * ((n / 10) % 10) + n % 10
whole n = omega arith

-- an opener with another digit at a place is one too, if the branch is free there and no earlier pattern singles out that digit
opener_lower : (branches : List Branch) (b other lower : ℕ) (u v : List ℕ) (e x : ℕ)
    → code_text other ≡ u ++ x ∷ v → code_text lower ≡ u ++ e ∷ v → lower < 10000
    → HasFree branches b (length u)
    → All
    (λ (p : Branch).
    (list_all (λ (q : ℕ × ℕ). fits q.0 q.1) (zip (take (length u) p.on) u) && eqb
    (get_or p.on (length u) 0) e)
    ≡ false)
    (take (b - 1) branches)
    → IsOpener branches b other → IsOpener branches b lower
opener_lower branches b other lower u v e x is_other is_lower small free untold_all o =
    let M : List ℕ → List ℕ → Bool = λ p ds. list_all (λ (q : ℕ × ℕ). fits q.0 q.1) (zip p ds) in
    record {
      small = small;
      here = λ own is. ap (M own.on) is_lower ∙ free_there own.on u v e x (free own is) (sym (ap (M own.on) is_other) ∙ o.here own is);
      first =
          λ k d lt.
          let p = get_or (take (b - 1) branches) k d in ap (M p.on) is_lower
          ∙ untold p.on u v e x (untold_all k d lt) (sym (ap (M p.on) is_other) ∙ o.first k d lt);
    }

-- an opener below n
abbrev OpensBelow : List Branch → ℕ → ℕ → Type 0
OpensBelow branches b n = (low : ℕ) × (low < n) × IsOpener branches b low

-- no earlier pattern singles out this digit there
abbrev Untold : List Branch → ℕ → ℕ → ℕ → ℕ → Type 0
Untold branches b n place digit = All (λ (p : Branch). has_digit p.on (code_text n) place digit ≡ false) (take (b - 1) branches)

lower_first : (branches : List Branch) (b n e o : ℕ) → HasFree branches b 0 → e + 1 ≡ n / 1000
    → Untold branches b n 0 (48 + e) → n ≤ o → o < 10000 → IsOpener branches b o → OpensBelow branches b n
lower_first branches b n e o free is untold_all from to opens =
    let low : ℕ = 1000 * e + 100 * ((o / 100) % 10) + 10 * ((o / 10) % 10) + o % 10 in
    let less : low < n = omega arith in
    let v : List ℕ = (48 + (o / 100) % 10) ∷ (48 + (o / 10) % 10) ∷ (48 + o % 10) ∷ [] in (
      low,
      less,
      opener_lower branches b o low [] v (48 + e) (48 + o / 1000) refl
          (digits_text e ((o / 100) % 10) ((o / 10) % 10) (o % 10) (omega arith) (omega arith) (omega arith))
          (omega arith) free untold_all opens,
    )

lower_second : (branches : List Branch) (b n e o : ℕ) → HasFree branches b 1 → e + 1 ≡ (n / 100) % 10
    → Untold branches b n 1 (48 + e) → n < 10000 → o / 1000 ≡ n / 1000 → IsOpener branches b o
    → OpensBelow branches b n
lower_second branches b n e o free is untold_all small same opens =
    let low : ℕ = 1000 * (o / 1000) + 100 * e + 10 * ((o / 10) % 10) + o % 10 in
    let parts = whole n in
    let less : low < n = omega (arith, parts) in
    let v : List ℕ = (48 + (o / 10) % 10) ∷ (48 + o % 10) ∷ [] in
    let digit : ℕ = 48 + o / 1000 in (
      low,
      less,
      opener_lower branches b o low (digit ∷ []) v (48 + e) (48 + (o / 100) % 10) refl
          (digits_text (o / 1000) e ((o / 10) % 10) (o % 10) (omega arith) (omega arith) (omega arith))
          (omega arith) free (rw same untold_all) opens,
    )

lower_third : (branches : List Branch) (b n e o : ℕ) → HasFree branches b 2 → e + 1 ≡ (n / 10) % 10
    → Untold branches b n 2 (48 + e) → n < 10000 → o / 100 ≡ n / 100 → IsOpener branches b o
    → OpensBelow branches b n
lower_third branches b n e o free is untold_all small same opens =
    let top : o / 1000 ≡ n / 1000 = coarser o n 100 10 same in
    let low : ℕ = 1000 * (o / 1000) + 100 * ((o / 100) % 10) + 10 * e + o % 10 in
    let parts = whole n in
    let second : (o / 100) % 10 ≡ (n / 100) % 10 = ap (λ (q : ℕ). q % 10) same in
    let less : low < n = omega (arith, parts) in
    let u : List ℕ = (48 + o / 1000) ∷ (48 + (o / 100) % 10) ∷ [] in (
      low,
      less,
      opener_lower branches b o low u ((48 + o % 10) ∷ []) (48 + e) (48 + (o / 10) % 10) refl
          (digits_text (o / 1000) ((o / 100) % 10) e (o % 10) (omega arith) (omega arith) (omega arith))
          (omega arith) free (rw (top, same) untold_all) opens,
    )

-- what opens the branch in this block is no least opener
lower : (branches : List Branch) (b n place digit o : ℕ) → place < 3 → n < 10000 → HasFree branches b place
    → 48 ≤ digit → digit + 1 ≡ get_or (code_text n) place 0 → Untold branches b n place digit
    → n ≤ o → o / (10 * size_at place) ≡ n / (10 * size_at place) → IsOpener branches b o
    → OpensBelow branches b n
lower branches b n zero digit o lt small free from is untold_all above same opens =
    let e : 48 + (digit - 48) ≡ digit = omega arith in
    lower_first branches b n (digit - 48) o free (omega arith) (subst (Untold branches b n 0) (sym e) untold_all) above opens.small opens
lower branches b n (suc zero) digit o lt small free from is untold_all above same opens =
    let e : 48 + (digit - 48) ≡ digit = omega arith in
    lower_second branches b n (digit - 48) o free (omega arith) (subst (Untold branches b n 1) (sym e) untold_all) small same opens
lower branches b n (suc (suc zero)) digit o lt small free from is untold_all above same opens =
    let e : 48 + (digit - 48) ≡ digit = omega arith in
    lower_third branches b n (digit - 48) o free (omega arith) (subst (Untold branches b n 2) (sym e) untold_all) small same opens
lower branches b n (suc (suc (suc place))) digit o lt small free from is untold_all above same opens = absurd (omega (arith, lt))

sizes : (place : ℕ) → (1 ≤ size_at place) × (size_at place ≤ 1000)
sizes zero = (omega arith, omega arith)
sizes (suc zero) = (omega arith, omega arith)
sizes (suc (suc zero)) = (omega arith, omega arith)
sizes (suc (suc (suc place))) = (omega arith, omega arith)

-- a block that is spent
pub spent : (branches : List Branch) (b n place digit : ℕ) → place < 3 → n < 10000 → HasFree branches b place
    → 48 ≤ digit → digit + 1 ≡ get_or (code_text n) place 0 → Untold branches b n place digit
    → IsBarren branches b n (10 * size_at place)
spent branches b n place digit lt small free from is untold_all =
    let size = sizes place in
    record {
      some = omega (arith, size.0);
      most = omega (arith, size.1);
      none = λ before code within o. elim (cases_lt code n) [
        | inl h ↦ before code h o
        | inr h ↦
            let low = lower branches b n place digit code lt small free from is untold_all h (in_block n code (10 * size_at place) h within) o in
            before low.0 low.1 low.2
      ];
    }

digit_byte : (n place : ℕ) → place < 3 → 48 ≤ get_or (code_text n) place 0
digit_byte n zero lt = omega arith
digit_byte n (suc zero) lt = omega arith
digit_byte n (suc (suc zero)) lt = omega arith
digit_byte n (suc (suc (suc place))) lt = absurd (omega (arith, lt))

-- the same, as it is tested
pub spent_told : (branches : List Branch) (b n place : ℕ) (digits : List ℕ) (told : Bool) → place < 3
    → n < 10000 → digits ≡ code_text n → get_or digits place 0 ≢ 48 → HasFree branches b place
    → told ≡ list_any (λ (p : Branch). has_digit p.on digits place (get_or digits place 0 - 1))
    (take (b - 1) branches)
    → told ≡ false → IsBarren branches b n (10 * size_at place)
spent_told branches b n place digits told lt small is other free by none =
    let below : ℕ = get_or digits place 0 - 1 in
    let same : get_or digits place 0 ≡ get_or (code_text n) place 0 = ap (λ (ds : List ℕ). get_or ds place 0) is in
    let byte : 48 ≤ get_or (code_text n) place 0 = digit_byte n place lt in
    let byte' : 48 ≤ get_or digits place 0 = subst (λ (x : ℕ). 48 ≤ x) (sym same) byte in
    let from : 48 ≤ below = omega (arith, other) in
    let next : below + 1 ≡ get_or digits place 0 = omega arith in
    let untold_all : (k : ℕ) (d : Branch) → k < length (take (b - 1) branches) → has_digit (get_or (take (b - 1) branches) k d).on digits place below ≡ false =
    λ k d within.
    false_from_ne_true _
    (λ e.
    both_ways _ (sym by ∙ none)
    (list_any-from_Any (λ (p : Branch). has_digit p.on digits place below) (take (b - 1) branches) (
      k,
      get_or (take (b - 1) branches) k d,
      within,
      get_or_default (take (b - 1) branches) k _ d within,
      e,
    ))) in
    spent branches b n place below lt small free from (next ∙ same)
    (subst
    (λ (ds : List ℕ). All (λ (p : Branch). has_digit p.on ds place below ≡ false) (take (b - 1) branches))
    is untold_all)

-- ---- the branch's own pattern

pub missed_cases : (branches : List Branch) (b n : ℕ) (own : Branch) (found : Option ℕ)
    → slice_get branches (b - 1) ≡ Some own
    → MatchOption found (IsTrue (matches own.on n))
    (λ size. (1 ≤ size) × (size ≤ 10000) × MissesBlock own.on n size)
    → MatchOption found (ForSome (slice_get branches (b - 1)) (λ (x : Branch). IsTrue (matches x.on n)))
    (IsBarren branches b n)
missed_cases branches b n own None is h = λ x e. subst (λ (y : Branch). IsTrue (matches y.on n)) (same_Some own x (sym is ∙ e)) h
missed_cases branches b n own (Some size) is h = missed_barren branches b n size own is h.0 h.1 h.2

pub no_own : (branches : List Branch) (b n : ℕ) → 1 ≤ b → length branches < b
    → ForSome (slice_get branches (b - 1)) (λ (x : Branch). IsTrue (matches x.on n))
no_own branches b n from past x e = elim (slice_get_cases branches (b - 1)).1 [
  | inl some ↦ let within = some.1 in absurd (omega arith)
  | inr none ↦ absurd (none-some x (sym none.1 ∙ e))
]
