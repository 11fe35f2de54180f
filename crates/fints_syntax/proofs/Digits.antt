-- Digits, and the characters of a kind, stand for themselves.
use Rattle.std.proofs.Common.{◌≡◌, ◌≢◌, ℕ, ◌^◌, ◌<◌, ◌≤◌, true, false, leb, ◌&&◌, List, [], ◌∷◌, length, refl, ap, ◌∙◌, sym, subst, arith, inl, inr, Option, Some, None}
use Rattle.std.specs.Prelude.{IsSome}
use Rattle.std.specs.Char.{is_ascii_digit, digit_value}
use Rattle.std.specs.List.{list_all}
use Rattle.std.specs.Str.{all_ascii_digits}
use Rattle.std.specs.Str.Parse.{AllDigits, digits_value}
use Rattle.std.proofs.lemmas.Bool.{cases_Bool, and_parts, leb-true}
use Rattle.std.proofs.lemmas.Bool.Decides.{nat_tests}
use Rattle.std.proofs.lemmas.Int.Digits.{digits_value-lt}
use Rattle.std.proofs.Math.Nat.{pow-le-pow_right}
use Rattle.fints_syntax_segments.specs.Kind.{IsKindText, kind_from}
use Rattle.fints_syntax_segments.specs.KindLaws.{is_kind_byte, spelled_kind}
use Rattle.fints_syntax_segments.specs.Number.{number_in}
use Rattle.fints_syntax_segments.specs.Spelling.{TextUnit, text_bytes, text_value}
use Rattle.fints_syntax.specs.Items.{HasNoEscape}
use Rattle.fints_syntax.proofs.Values.{no_escape_value}

some_same : (x y : ℕ) → Some x ≡ Some y → x ≡ y
some_same x y e = cc

digit_unescaped : (b : ℕ) → is_ascii_digit b ≡ true → b ≢ 63
digit_unescaped b h e = absurd (let f : is_ascii_digit b ≡ false = rw e refl in cc)

digits_unescaped : (bs : List ℕ) → all_ascii_digits bs ≡ true → HasNoEscape bs
digits_unescaped [] h = tt
digits_unescaped (b ∷ bs) h =
    let p = and_parts (is_ascii_digit b) (all_ascii_digits bs) h in
    (digit_unescaped b p.0, digits_unescaped bs p.1)

-- what spells a number has no escape
number_unescaped : (least most n : ℕ) (bs : List ℕ) → number_in least most bs ≡ Some n → HasNoEscape bs
number_unescaped least most n bs h =
    elim (cases_Bool (all_ascii_digits bs)) [
      | inl e ↦ digits_unescaped bs e
      | inr e ↦ let none : number_in least most bs ≡ None = rw e refl in absurd (let x = sym none ∙ h in cc)
    ]

-- nor has the text of a kind
kind_bytes_unescaped : (bs : List ℕ) → list_all is_kind_byte bs ≡ true → HasNoEscape bs
kind_bytes_unescaped [] h = tt
kind_bytes_unescaped (b ∷ bs) h =
    let p = and_parts (is_kind_byte b) (list_all is_kind_byte bs) h in
    (λ e. absurd (let f : is_kind_byte b ≡ false = rw e refl in cc), kind_bytes_unescaped bs p.1)

-- so both are the values of the text
pub number_value : (least most n : ℕ) (us : List TextUnit) (bs : List ℕ) → bs ≡ text_bytes us
    → Some n ≡ number_in least most bs → Some n ≡ number_in least most (text_value us)
number_value least most n us bs e h =
    let none : HasNoEscape (text_bytes us) = subst HasNoEscape e (number_unescaped least most n bs (sym h)) in
    h ∙ ap (number_in least most) (e ∙ no_escape_value us none)

pub kind_value : (k : List ℕ) (us : List TextUnit) (bs : List ℕ) → bs ≡ text_bytes us → Some k ≡ kind_from bs
    → Some k ≡ kind_from (text_value us)
kind_value k us bs e h =
    let kind : IsKindText bs = subst (λ (o : Option (List ℕ)). IsSome o) h refl in
    let none : HasNoEscape (text_bytes us) = subst HasNoEscape e (kind_bytes_unescaped bs (spelled_kind bs kind).each) in
    h ∙ ap kind_from (e ∙ no_escape_value us none)

passing : (bs : List ℕ) → all_ascii_digits bs ≡ true → AllDigits 10 bs
passing [] h = tt
passing (b ∷ bs) h =
    let p = and_parts (is_ascii_digit b) (all_ascii_digits bs) h in
    let d : is_ascii_digit b ≡ true = p.0 in
    let below : digit_value b < 10 = grind (arith, nat_tests) in
    (below, passing bs p.1)

-- what at most three digits spell
pub number_small : (n : ℕ) (bs : List ℕ) → number_in 1 3 bs ≡ Some n → n < 1000
number_small n bs h =
    elim (cases_Bool (all_ascii_digits bs && leb 1 (length bs) && leb (length bs) 3)) [
      | inl e ↦
          let p = and_parts (all_ascii_digits bs && leb 1 (length bs)) (leb (length bs) 3) e in
          let q = and_parts (all_ascii_digits bs) (leb 1 (length bs)) p.0 in
          let same : number_in 1 3 bs ≡ Some (digits_value 10 bs) = rw e refl in
          let value : digits_value 10 bs ≡ n = some_same (digits_value 10 bs) n (sym same ∙ h) in
          let below = digits_value-lt 10 bs (passing bs q.0) in
          let short = leb-true (length bs) 3 p.1 in
          let power : 10 ^ length bs ≤ 10 ^ 3 = let pos : 0 < 10 = omega arith in pow-le-pow_right pos short in
          omega arith
      | inr e ↦ let none : number_in 1 3 bs ≡ None = rw e refl in absurd (let x = sym none ∙ h in cc)
    ]

-- nine digits are within 32 bits
pub nine_digits : (n count : ℕ) → n < 10 ^ count → count < 9 → n < 10 ^ 8
nine_digits n count h lt =
    let power : 10 ^ count ≤ 10 ^ 8 = let pos : 0 < 10 = omega arith in let le : count ≤ 8 = omega arith in pow-le-pow_right pos le in
    omega arith
