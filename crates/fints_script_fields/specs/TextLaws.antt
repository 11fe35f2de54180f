-- The text of a listed account determines its items, if any. Lemmas with their proofs: nothing here need be believed.
use Rattle.std.specs.Prelude.{◌≡◌, ◌≢◌, ◌⊎◌, ℕ, ◌≤◌, ◌||◌, true, false, List, [], ◌∷◌, ◌++◌, length, map}
use Rattle.std.proofs.Common.{refl, ap, sym, subst, ◌∙◌, arith, inl, inr, append_assoc, eqb}
use Rattle.std.proofs.lemmas.Bool.{cases_Bool}
use Rattle.std.proofs.lemmas.List.{append-nil}
use Rattle.fints_syntax_segments.specs.Spelling.{is_separator, text_bytes, unit_bytes, written_unit}
use Rattle.fints_script_fields.specs.Listed.{account_text}

-- ---- one byte

abbrev U : ℕ → List ℕ
U b = unit_bytes (written_unit b)

abbrev W : List ℕ → List ℕ
W x = text_bytes (map written_unit x)

unit_cases : (b : ℕ) → (U b ≡ 63 ∷ b ∷ []) ⊎ ((U b ≡ b ∷ []) × (b ≢ 58) × (b ≢ 63))
unit_cases b =
    elim (cases_Bool (is_separator b || eqb b 63 || eqb b 64)) [
      | inl h ↦ inl (rw h refl)
      | inr h ↦ inr (
        rw h refl,
        λ e. let no_match : true ≡ false =
            subst (λ (n : ℕ). (is_separator n || eqb n 63 || eqb n 64) ≡ false) e h in cc,
        λ e. let no_match : true ≡ false =
            subst (λ (n : ℕ). (is_separator n || eqb n 63 || eqb n 64) ≡ false) e h in cc,
      )
    ]

heads : (c d : ℕ) (p q : List ℕ) → c ∷ p ≡ d ∷ q → (c ≡ d) × (p ≡ q)
heads c d p q e = (cc, cc)

one_unit : (c d : ℕ) (p q : List ℕ) → U c ++ p ≡ U d ++ q → (c ≡ d) × (p ≡ q)
one_unit c d p q e =
    elim (unit_cases c) [
      | inl ec ↦ elim (unit_cases d) [
        | inl ed ↦
            let e' : 63 ∷ c ∷ p ≡ 63 ∷ d ∷ q = sym (ap (λ (u : List ℕ). u ++ p) ec)
            ∙ (e ∙ ap (λ (u : List ℕ). u ++ q) ed) in heads c d p q (heads 63 63 (c ∷ p) (d ∷ q) e').1
        | inr pd ↦
            let e' : 63 ∷ c ∷ p ≡ d ∷ q = sym (ap (λ (u : List ℕ). u ++ p) ec)
            ∙ (e ∙ ap (λ (u : List ℕ). u ++ q) pd.0) in absurd (pd.2 (sym (heads 63 d (c ∷ p) q e').0))
      ]
      | inr pc ↦ elim (unit_cases d) [
        | inl ed ↦
            let e' : c ∷ p ≡ 63 ∷ d ∷ q = sym (ap (λ (u : List ℕ). u ++ p) pc.0)
            ∙ (e ∙ ap (λ (u : List ℕ). u ++ q) ed) in absurd (pc.2 (heads c 63 p (d ∷ q) e').0)
        | inr pd ↦ let e' : c ∷ p ≡ d ∷ q =
            sym (ap (λ (u : List ℕ). u ++ p) pc.0) ∙ (e ∙ ap (λ (u : List ℕ). u ++ q) pd.0) in
            heads c d p q e'
      ]
    ]

-- ---- one item

-- nothing, or a `:`
abbrev Ends : List ℕ → Type 0
Ends r = (r ≡ []) ⊎ ((q : List ℕ) × (r ≡ 58 ∷ q))

ends_some : (d : ℕ) (q r : List ℕ) → d ∷ q ≡ r → d ≢ 58 → Ends r → ⊥
ends_some d q r e other (inl none) = let no_match : d ∷ q ≡ [] = e ∙ none in cc
ends_some d q r e other (inr (p, some)) = other (heads d 58 q p (e ∙ some)).0

no_unit : (d : ℕ) (q r : List ℕ) → U d ++ q ≡ r → Ends r → ⊥
no_unit d q r e end =
    elim (unit_cases d) [
      | inl ed ↦ let e' : 63 ∷ d ∷ q ≡ r =
          sym (ap (λ (u : List ℕ). u ++ q) ed) ∙ e in
          ends_some 63 (d ∷ q) r e' (λ no. absurd (omega (arith, no))) end
      | inr pd ↦ let e' : d ∷ q ≡ r =
          sym (ap (λ (u : List ℕ). u ++ q) pd.0) ∙ e in ends_some d q r e' pd.1 end
    ]

tell : (x y r s : List ℕ) → Ends r → Ends s → W x ++ r ≡ W y ++ s → (x ≡ y) × (r ≡ s)
tell [] [] r s a b e = (refl, e)
tell [] (d ∷ y) r s a b e = absurd (no_unit d (W y ++ s) r (sym (e ∙ append_assoc (U d) (W y) s)) a)
tell (c ∷ x) [] r s a b e = absurd (no_unit c (W x ++ r) s (sym (append_assoc (U c) (W x) r) ∙ e) b)
tell (c ∷ x) (d ∷ y) r s a b e =
    let two =
    one_unit c d (W x ++ r) (W y ++ s)
    (sym (append_assoc (U c) (W x) r) ∙ (e ∙ append_assoc (U d) (W y) s)) in
    let rest = tell x y r s a b two.1 in
    (ap (λ (n : ℕ). n ∷ x) two.0 ∙ ap (λ (z : List ℕ). d ∷ z) rest.0, rest.1)

-- ---- accounts

pub text_tells : (a b : List (List ℕ)) → 1 ≤ length a → 1 ≤ length b → account_text a ≡ account_text b → a ≡ b
text_tells [] b some_a some_b e = absurd (omega (arith, some_a))
text_tells (x ∷ a) [] some_a some_b e = absurd (omega (arith, some_b))
text_tells (x ∷ []) (y ∷ []) some_a some_b e =
    let t = tell x y [] [] (inl refl) (inl refl) (append-nil (W x) ∙ (e ∙ sym (append-nil (W y)))) in
    ap (λ (z : List ℕ). z ∷ []) t.0
text_tells (x ∷ []) (y ∷ z ∷ b) some_a some_b e =
    let t =
    tell x y [] (58 ∷ account_text (z ∷ b)) (inl refl) (inr (account_text (z ∷ b), refl))
    (append-nil (W x) ∙ e) in
    let no_match : [] ≡ 58 ∷ account_text (z ∷ b) = t.1 in cc
text_tells (x ∷ w ∷ a) (y ∷ []) some_a some_b e =
    let t =
    tell x y (58 ∷ account_text (w ∷ a)) [] (inr (account_text (w ∷ a), refl)) (inl refl)
    (e ∙ sym (append-nil (W y))) in
    let no_match : 58 ∷ account_text (w ∷ a) ≡ [] = t.1 in cc
text_tells (x ∷ w ∷ a) (y ∷ z ∷ b) some_a some_b e =
    let t =
    tell x y (58 ∷ account_text (w ∷ a)) (58 ∷ account_text (z ∷ b)) (inr (account_text (w ∷ a), refl))
    (inr (account_text (z ∷ b), refl)) e in
    let rest =
    text_tells (w ∷ a) (z ∷ b) (omega arith) (omega arith)
    (heads 58 58 (account_text (w ∷ a)) (account_text (z ∷ b)) t.1).1 in
    ap (λ (n : List ℕ). n ∷ w ∷ a) t.0 ∙ ap (λ (l : List (List ℕ)). y ∷ l) rest

-- the text with the number of items determines the items, even where there are none
pub text_and_count_tell : (a b : List (List ℕ)) → account_text a ≡ account_text b → length a ≡ length b
    → a ≡ b
text_and_count_tell [] [] same count = refl
text_and_count_tell [] (y ∷ b) same count = absurd (omega (arith, count))
text_and_count_tell (x ∷ a) [] same count = absurd (omega (arith, count))
text_and_count_tell (x ∷ a) (y ∷ b) same count = text_tells (x ∷ a) (y ∷ b) (omega arith) (omega arith) same
