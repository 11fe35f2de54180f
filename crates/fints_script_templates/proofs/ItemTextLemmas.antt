-- A text without a mark.
use Rattle.std.proofs.Common.{◌≡◌, ℕ, false, ◌==◌, List, [], ◌∷◌, refl, ap, inl, inr}
use Rattle.std.proofs.lemmas.Bool.{cases_Bool}
use Rattle.std.proofs.lemmas.Bool.Decides.{Decides-eqb}
use Rattle.fints_script_templates.specs.ItemTexts.{literal, reading_of}

other : (m n : ℕ) → (m ≡ n → ⊥) → (m == n) ≡ false
other m n h = elim (cases_Bool (m == n)) [ inl e ↦ absurd (h ((Decides-eqb m n).0 e)) | inr e ↦ e ]

pub unmarked : (text : List ℕ) → ((rest : List ℕ) → text ≡ 36 ∷ rest → ⊥)
    → ((rest : List ℕ) → text ≡ 37 ∷ rest → ⊥) → ((rest : List ℕ) → text ≡ 61 ∷ rest → ⊥)
    → literal text ≡ reading_of text
unmarked [] a b c = refl
unmarked (x ∷ xs) a b c =
    let no_field : (x == 36) ≡ false = other x 36 (λ e. a xs (ap (λ y. y ∷ xs) e)) in
    let no_hex : (x == 37) ≡ false = other x 37 (λ e. b xs (ap (λ y. y ∷ xs) e)) in
    let no_text : (x == 61) ≡ false = other x 61 (λ e. c xs (ap (λ y. y ∷ xs) e)) in
    rw (no_field, no_hex, no_text) refl
