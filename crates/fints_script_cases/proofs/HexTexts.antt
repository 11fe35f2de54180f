-- Hex in lower case: what `hex` decodes is spelt by its bytes where no letter is a capital.
use Rattle.std.proofs.Common.{ℕ, suc, zero, ◌+◌, ◌*◌, ◌/◌, ◌%◌, ◌<◌, ◌≤◌, ◌≡◌, ◌⊎◌, Option, Some, None, Result, Ok, Err, List, [], ◌∷◌, slice_index, get_or, refl, ap, sym, subst, ◌∙◌, arith, inl, inr}
use Rattle.std.proofs.lemmas.Bool.{cases_lt}
use Rattle.std.proofs.lemmas.List.{get_or_default}
use Rattle.std.proofs.lemmas.List.Elements.{All-cons, All-nil, All-head, All-tail}
use Rattle.std.specs.List.{All, Any}
use Rattle.hex.specs.Hex.{encode_lower, encode_with, lower_digits, decode_of, decode_pairs, hex_digit_value, digit_or_error, value_at, pair_value, ◌>>=◌}
use Rattle.hex.specs.declared.error.FromHexError.{FromHexError}
use Rattle.hex.proofs.HexLemmas.{decode_of-even, decode_of-ok}
use Rattle.fints_script_cases.specs.CaseReading.{IsValue, IsCapital}

-- the digit of a number below 16
digit_at : (k : ℕ) → k < 16
    → ((k < 10) × (slice_index lower_digits k ≡ 48 + k)) ⊎ ((10 ≤ k) × (slice_index lower_digits k ≡ 87 + k))
digit_at zero h = inl (omega arith, refl)
digit_at (suc zero) h = inl (omega arith, refl)
digit_at (suc (suc zero)) h = inl (omega arith, refl)
digit_at (suc (suc (suc zero))) h = inl (omega arith, refl)
digit_at (suc (suc (suc (suc zero)))) h = inl (omega arith, refl)
digit_at (suc (suc (suc (suc (suc zero))))) h = inl (omega arith, refl)
digit_at (suc (suc (suc (suc (suc (suc zero)))))) h = inl (omega arith, refl)
digit_at (suc (suc (suc (suc (suc (suc (suc zero))))))) h = inl (omega arith, refl)
digit_at (suc (suc (suc (suc (suc (suc (suc (suc zero)))))))) h = inl (omega arith, refl)
digit_at (suc (suc (suc (suc (suc (suc (suc (suc (suc zero))))))))) h = inl (omega arith, refl)
digit_at (suc (suc (suc (suc (suc (suc (suc (suc (suc (suc zero)))))))))) h = inr (omega arith, refl)
digit_at (suc (suc (suc (suc (suc (suc (suc (suc (suc (suc (suc zero))))))))))) h = inr (omega arith, refl)
digit_at (suc (suc (suc (suc (suc (suc (suc (suc (suc (suc (suc (suc zero)))))))))))) h = inr (omega arith, refl)
digit_at (suc (suc (suc (suc (suc (suc (suc (suc (suc (suc (suc (suc (suc zero))))))))))))) h = inr (omega arith, refl)
digit_at (suc (suc (suc (suc (suc (suc (suc (suc (suc (suc (suc (suc (suc (suc zero)))))))))))))) h = inr (omega arith, refl)
digit_at (suc (suc (suc (suc (suc (suc (suc (suc (suc (suc (suc (suc (suc (suc (suc zero))))))))))))))) h = inr (omega arith, refl)
digit_at (suc (suc (suc (suc (suc (suc (suc (suc (suc (suc (suc (suc (suc (suc (suc (suc k)))))))))))))))) h = absurd (omega arith)

digit_no_capital : (k : ℕ) → k < 16 → IsCapital (slice_index lower_digits k) → ⊥
digit_no_capital k h c =
    elim (digit_at k h) [
      | inl low ↦ omega (arith, low.0, low.1, c.0, c.1)
      | inr high ↦ omega (arith, high.0, high.1, c.0, c.1)
    ]

no_capitals : (v : List ℕ) → IsValue v → All (λ c. IsCapital c → ⊥) (encode_lower v)
unfolding encode_with
no_capitals [] h = All-nil (λ c. IsCapital c → ⊥)
no_capitals (b ∷ v) h =
    let byte : b < 256 = All-head (λ x. x < 256) b v h in
    let high : b / 16 < 16 = omega arith in
    let low : b % 16 < 16 = omega arith in
    All-cons (λ c. IsCapital c → ⊥) (slice_index lower_digits (b / 16)) (slice_index lower_digits (b % 16) ∷ encode_lower v) (digit_no_capital (b / 16) high)
    (All-cons (λ c. IsCapital c → ⊥) (slice_index lower_digits (b % 16)) (encode_lower v)
    (digit_no_capital (b % 16) low) (no_capitals v (All-tail (λ x. x < 256) b v h)))

pub capital_no_hex : (text : List ℕ) → Any IsCapital text → (value : List ℕ) → IsValue value
    → text ≡ encode_lower value → ⊥
capital_no_hex text found value is e =
    let none : All (λ c. IsCapital c → ⊥) text = subst (λ (t : List ℕ). All (λ c. IsCapital c → ⊥) t) (sym e) (no_capitals value is) in
    none found.0 found.1 found.2 (subst IsCapital (sym found.3) found.4)

-- ---- back

low_value : (c v : ℕ) → hex_digit_value c ≡ Some v → c < 65 → (v < 10) × (v + 48 ≡ c)
low_value c v h low = (grind arith, grind arith)

high_value : (c v : ℕ) → hex_digit_value c ≡ Some v → 90 < c → (10 ≤ v) × (v < 16) × (v + 87 ≡ c)
high_value c v h high = (grind arith, grind arith, grind arith)

digit_again : (c v : ℕ) → (IsCapital c → ⊥) → hex_digit_value c ≡ Some v
    → (v < 16) × (slice_index lower_digits v ≡ c)
digit_again c v no_capital h =
    elim (cases_lt c 65) [
      | inl low ↦
          let is = low_value c v h low in
          elim (digit_at v (omega (arith, is.0))) [
            | inl d ↦ (omega (arith, is.0), omega (arith, is.1, d.1))
            | inr d ↦ absurd (omega (arith, is.0, d.0))
          ]
      | inr over ↦
          elim (cases_lt 90 c) [
            | inl high ↦
                let is = high_value c v h high in
                elim (digit_at v (is.1)) [
                  | inl d ↦ absurd (omega (arith, is.0, d.0))
                  | inr d ↦ (is.1, omega (arith, is.2, d.1))
                ]
            | inr within ↦ absurd (no_capital (over, within))
          ]
    ]

bind_ok : {A B : Type 0} (r : Result A FromHexError) (f : A → Result B FromHexError) (y : B)
    → (r >>= f) ≡ Ok y → (x : A) × (r ≡ Ok x) × (f x ≡ Ok y)
bind_ok (Ok x) f y h = (x, refl, h)
bind_ok (Err e) f y h = cc h

digit_read : (c i : ℕ) (o : Option ℕ) (v : ℕ) → digit_or_error c i o ≡ Ok v → o ≡ Some v
digit_read c i (Some w) v h = let same : w ≡ v = cc in ap Some same
digit_read c i None v h = cc h

pairs_again : (i : ℕ) (text bytes : List ℕ) → All (λ c. IsCapital c → ⊥) text → decode_pairs i text ≡ Ok bytes
    → text ≡ encode_lower bytes
unfolding decode_pairs encode_with
pairs_again i [] bytes none h = let e : [] ≡ bytes = cc in ap encode_lower e
pairs_again i (a ∷ []) bytes none h = cc h
pairs_again i (a ∷ b ∷ rest) bytes none h =
    let p0 = bind_ok (pair_value a b i) _ bytes h in
    let p1 = bind_ok (value_at a i) _ p0.0 p0.1 in
    let p2 = bind_ok (value_at b (i + 1)) _ p0.0 p1.2 in
    let p3 = bind_ok (decode_pairs (i + 2) rest) _ bytes p0.2 in
    let tail = All-tail (λ c. IsCapital c → ⊥) a (b ∷ rest) none in
    let again = pairs_again (i + 2) rest p3.0 (All-tail (λ c. IsCapital c → ⊥) b rest tail) p3.1 in
    let da = digit_again a p1.0 (All-head (λ c. IsCapital c → ⊥) a (b ∷ rest) none) (digit_read a i (hex_digit_value a) p1.0 p1.1) in
    let db = digit_again b p2.0 (All-head (λ c. IsCapital c → ⊥) b rest tail) (digit_read b (i + 1) (hex_digit_value b) p2.0 p2.1) in
    let byte : p1.0 * 16 + p2.0 ≡ p0.0 = (let same = p2.2 in cc) in
    let bytes_are : p0.0 ∷ p3.0 ≡ bytes = (let same = p3.2 in cc) in
    let small = da.0 in
    let less = db.0 in
    let high : p0.0 / 16 ≡ p1.0 = omega arith in
    let low : p0.0 % 16 ≡ p2.0 = omega arith in
    let first : a ≡ slice_index lower_digits (p0.0 / 16) = sym (ap (λ (k : ℕ). slice_index lower_digits k) high ∙ da.1) in
    let second : b ≡ slice_index lower_digits (p0.0 % 16) = sym (ap (λ (k : ℕ). slice_index lower_digits k) low ∙ db.1) in
    ap (λ (x : ℕ). x ∷ b ∷ rest) first
    ∙ (ap (λ (x : ℕ). slice_index lower_digits (p0.0 / 16) ∷ x ∷ rest) second
    ∙ (ap (λ (xs : List ℕ). slice_index lower_digits (p0.0 / 16) ∷ slice_index lower_digits (p0.0 % 16) ∷ xs) again ∙ ap encode_lower bytes_are))

pub hex_again : (text value : List ℕ) → (Any IsCapital text → ⊥) → decode_of text ≡ Ok value
    → text ≡ encode_lower value
hex_again text value none h =
    let even = (decode_of-ok text value h).0 in
    pairs_again 0 text value
    (λ k d within c.
    none (k, get_or text k d, within, get_or_default text k (get_or text k d) d within, c))
    (sym (decode_of-even text even) ∙ h)
