-- A text ends with `permitted` only where nothing is broken.
use Rattle.std.proofs.Common.{◌≡◌, ◌∙◌, ℕ, zero, suc, ◌+◌, ◌<◌, ◌≤◌, ◌/◌, ◌%◌, Bool, true, false, cond, List, [], ◌∷◌, ◌++◌, codes, length, refl, ap, sym, arith}
use Rattle.std.specs.Prelude.{◌==◌}
use Rattle.std.specs.Fmt.{decimal, digit_glyph, digits, digits_onto}
use Rattle.std.proofs.Math.Nat.{mod-lt}
use Rattle.fints_rules.specs.declared.rule.Broken.{Broken}
use Rattle.fints_cli_texts.specs.Judge.{EndsPermitted, last_line}

-- ---- the last byte of a list after another byte, and the one before it after two

abbrev pub last_of : ℕ → List ℕ → ℕ
last_of a [] = a
last_of a (x ∷ xs) = last_of x xs

abbrev pub before_last : ℕ → ℕ → List ℕ → ℕ
before_last a b [] = a
before_last a b (x ∷ xs) = before_last b x xs

pub before_over : (a b x y : ℕ) (xs ys : List ℕ) → before_last a b (xs ++ x ∷ y ∷ ys) ≡ before_last x y ys
before_over a b x y [] ys = refl
before_over a b x y (z ∷ xs) ys = before_over b z x y xs ys

pub before_one : (a b x : ℕ) (xs : List ℕ) → before_last a b (xs ++ x ∷ []) ≡ last_of b xs
before_one a b x [] = refl
before_one a b x (y ∷ xs) = before_one b y x xs

-- ---- numbers end with a digit

abbrev pub digit : ℕ → ℕ
digit n = digit_glyph false (n % 10)

last_onto : (k n a x : ℕ) (xs : List ℕ) → last_of a (digits_onto k 10 false n (x ∷ xs)) ≡ last_of x xs
last_onto zero n a x xs = refl
last_onto (suc k) n a x xs =
    elim (n / 10 == 0) as (λ v. last_of a (cond v (digit n ∷ x ∷ xs) (digits_onto k 10 false (n / 10) (digit n ∷ x ∷ xs))) ≡ last_of x xs) [
      | true ↦ refl
      | false ↦ last_onto k (n / 10) a (digit n) (x ∷ xs)
    ]

pub last_digit : (n a : ℕ) → last_of a (decimal n) ≡ digit n
unfolding digits
last_digit n a =
    elim (n / 10 == 0) as (λ v. last_of a (cond v (digit n ∷ []) (digits_onto 63 10 false (n / 10) (digit n ∷ []))) ≡ digit n) [
      | true ↦ refl
      | false ↦ last_onto 63 (n / 10) a (digit n) []
    ]

-- a digit is no letter
pub glyph_not : (b : Bool) (d letter : ℕ) → d < 10 → 97 ≤ letter → cond b (48 + d) (87 + d) ≡ letter → ⊥
glyph_not true d letter small le e = omega (arith, small, le, e)
glyph_not false d letter small le e = omega (arith, small, le, e)

-- ---- the last line

permitted_no_digit : (before lines ds : List ℕ)
    → before ++ codes "permitted\n" ≡ lines ++ (codes "broken " ++ ds ++ codes "\n") → 100 ≡ last_of 32 ds
permitted_no_digit before lines ds e =
    sym (before_over 0 0 112 101 before (codes "rmitted\n"))
    ∙ (ap (before_last 0 0) e
    ∙ (before_over 0 0 98 114 lines (codes "oken " ++ ds ++ codes "\n")
    ∙ before_one 110 32 10 ds))

ends_permitted : (broken : List Broken) (before lines : List ℕ)
    → before ++ codes "permitted\n" ≡ lines ++ last_line broken → broken ≡ []
ends_permitted [] before lines e = refl
ends_permitted (b ∷ bs) before lines e =
    let n = length (b ∷ bs) in
    absurd (glyph_not _ (n % 10) 100 (mod-lt n (omega arith)) (omega arith)
    (sym (permitted_no_digit before lines (decimal n) e ∙ last_digit n 32)))

pub permitted_is_none : (broken : List Broken) (lines text : List ℕ) → text ≡ lines ++ last_line broken
    → EndsPermitted text → broken ≡ []
permitted_is_none broken lines text is (before, ends) = ends_permitted broken before lines (sym ends ∙ is)
