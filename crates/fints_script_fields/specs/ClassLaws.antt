-- How long the values of a class are written. Lemmas with their proofs: nothing here need be believed.
use Rattle.std.specs.Prelude.{ℕ, ◌≡◌, ◌+◌, ◌*◌, ◌^◌, ◌<◌, ◌≤◌, ◌||◌, false, List, [], ◌∷◌, length, map, All, replicate, suc, zero}
use Rattle.std.specs.Fmt.{decimal}
use Rattle.std.proofs.Common.{refl, ◌∙◌, arith, inl, inr, eqb}
use Rattle.std.proofs.lemmas.Bool.{cases_Bool}
use Rattle.std.proofs.lemmas.Bool.Decides.{nat_tests}
use Rattle.std.proofs.lemmas.List.{length-replicate, length-append}
use Rattle.std.proofs.lemmas.List.Elements.{All-replicate, All-head, All-tail}
use Rattle.std.proofs.lemmas.Fmt.{decimal_is_IsNumeral, length-decimal-le, decimal_nonempty}
use Rattle.std.proofs.lemmas.Int.Digits.{digits_value-lt}
use Rattle.std.specs.Str.Parse.{digits_value}
use Rattle.fints_syntax_segments.specs.Spelling.{written_unit, text_bytes, unit_bytes, is_separator}
use Rattle.fints_script_fields.specs.Lengths.{text_len, binary_len}
use Rattle.fints_script_fields.specs.Classes.{Counts, IsByte, IsCharacter, longest_character, shortest_character}
use Rattle.fints_script_fields.specs.declared.alphabet.Alphabet.{Alphabet}
use Rattle.fints_script_fields.specs.declared.alphabet.Alphabet.TheVariants.{Digits, Plain, Latin}

-- ---- how many bytes values have

fill_len : (n fill : ℕ) → length (replicate n fill) ≡ n
fill_len n fill = length-replicate n fill

-- a value of any count within the limits is in the domain
counted : (P : ℕ → Type 0) (min max n fill : ℕ) → P fill → min ≤ n → n ≤ max
    → Counts P min max (replicate n fill)
counted P min max n fill p low high =
    let c : length (replicate n fill) ≡ n = length-replicate n fill in
    record { each = All-replicate P n fill p; least = omega arith; most = omega arith }

pub counted_most : (P : ℕ → Type 0) (min max fill : ℕ) → P fill → min ≤ max
    → Counts P min max (replicate max fill)
counted_most P min max fill p le = counted P min max max fill p le (omega arith)

pub counted_least : (P : ℕ → Type 0) (min max fill : ℕ) → P fill → min ≤ max
    → Counts P min max (replicate min fill)
counted_least P min max fill p le = counted P min max min fill p (omega arith) le

-- ---- texts

unit_len : (b : ℕ) → (1 ≤ length (unit_bytes (written_unit b))) × (length (unit_bytes (written_unit b)) ≤ 2)
unit_len b =
    elim (cases_Bool (is_separator b || eqb b 63 || eqb b 64)) [
      | inl h ↦ rw h (omega arith, omega arith)
      | inr h ↦ rw h (omega arith, omega arith)
    ]

text_len-cons : (b : ℕ) (bs : List ℕ) → text_len (b ∷ bs) ≡ length (unit_bytes (written_unit b)) + text_len bs
text_len-cons b bs = length-append (unit_bytes (written_unit b)) (text_bytes (map written_unit bs))

pub text_len-low : (v : List ℕ) → length v ≤ text_len v
text_len-low [] = omega arith
text_len-low (b ∷ bs) =
    let u = unit_len b in let e = text_len-cons b bs in let ih = text_len-low bs in omega arith

text_len-high : (v : List ℕ) → text_len v ≤ 2 * length v
text_len-high [] = omega arith
text_len-high (b ∷ bs) =
    let u = unit_len b in let e = text_len-cons b bs in let ih = text_len-high bs in omega arith

pub text_len_marks : (n : ℕ) → text_len (replicate n 63) ≡ 2 * n
text_len_marks zero = refl
text_len_marks (suc n) = let ih = text_len_marks n in omega arith

-- no byte that is escaped
abbrev IsBare : ℕ → Type 0
IsBare b = length (unit_bytes (written_unit b)) ≡ 1

text_len-bare : (v : List ℕ) → All IsBare v → text_len v ≡ length v
text_len-bare [] h = refl
text_len-bare (b ∷ bs) h =
    let e = text_len-cons b bs in let one : length (unit_bytes (written_unit b)) ≡ 1 = All-head IsBare b bs
    h in let ih = text_len-bare bs (All-tail IsBare b bs h) in omega arith

bare : (b : ℕ) → (is_separator b || eqb b 63 || eqb b 64) ≡ false → IsBare b
bare b h = rw h refl

-- digits, and letters and digits, are written as they are
digit_bare : (b : ℕ) → IsCharacter Digits b → IsBare b
digit_bare b h = bare b (grind (arith, nat_tests))

plain_bare : (b : ℕ) → IsCharacter Plain b → IsBare b
plain_bare b h = bare b (grind (arith, nat_tests))

bare_fill : (n fill : ℕ) → IsBare fill → text_len (replicate n fill) ≡ n
bare_fill n fill p = text_len-bare (replicate n fill) (All-replicate IsBare n fill p) ∙ fill_len n fill

pub text_len_nines : (n : ℕ) → text_len (replicate n 57) ≡ n
text_len_nines n = bare_fill n 57 refl

pub text_len_capitals : (n : ℕ) → text_len (replicate n 90) ≡ n
text_len_capitals n = bare_fill n 90 refl

-- ---- the longest and the shortest text of an alphabet

pub longest_has : (a : Alphabet) → IsCharacter a (longest_character a)
longest_has Digits = (omega arith, omega arith)
longest_has Plain = inl (omega arith, omega arith)
longest_has Latin = inl (omega arith, omega arith)

pub shortest_has : (a : Alphabet) → IsCharacter a (shortest_character a)
shortest_has Digits = (omega arith, omega arith)
shortest_has Plain = inl (omega arith, omega arith)
shortest_has Latin = inl (omega arith, omega arith)

pub text_most : (a : Alphabet) (min max : ℕ) (v : List ℕ) → Counts (IsCharacter a) min max v
    → text_len v ≤ text_len (replicate max (longest_character a))
text_most Digits min max v h =
    let same = text_len-bare v (λ k d lt. digit_bare _ (h.each k d lt)) in
    let most = text_len_nines max in
    omega (arith, h.most)
text_most Plain min max v h =
    let same = text_len-bare v (λ k d lt. plain_bare _ (h.each k d lt)) in
    let most = text_len_capitals max in
    omega (arith, h.most)
text_most Latin min max v h =
    let high = text_len-high v in let most = text_len_marks max in omega (arith, h.most)

shortest_bare : (a : Alphabet) → IsBare (shortest_character a)
shortest_bare Digits = refl
shortest_bare Plain = refl
shortest_bare Latin = refl

pub text_least : (a : Alphabet) (min max : ℕ) (v : List ℕ) → Counts (IsCharacter a) min max v
    → text_len (replicate min (shortest_character a)) ≤ text_len v
text_least a min max v h =
    let low = text_len-low v in
    let least = bare_fill min (shortest_character a) (shortest_bare a) in
    omega (arith, h.least)

-- ---- binary items

pub binary_length : (v : List ℕ) → binary_len v ≡ length v + length (decimal (length v)) + 2
binary_length v = omega (arith, length-append (decimal (length v)) (64 ∷ v))

-- a greater number has as many digits at least
decimal_len-mono : (a b : ℕ) → a ≤ b → b < 2 ^ 64 → length (decimal a) ≤ length (decimal b)
decimal_len-mono a b le small =
    let n = decimal_is_IsNumeral b small in
    let value : digits_value 10 (decimal b) ≡ b = n.1 in
    let below : digits_value 10 (decimal b) < 10 ^ length (decimal b) =
    digits_value-lt 10 (decimal b) n.0.1 in
    length-decimal-le (length (decimal b)) a (decimal_nonempty b small) (omega arith) (omega arith)

binary_mono : (v w : List ℕ) → length v ≤ length w → length w ≤ 10000 → binary_len v ≤ binary_len w
binary_mono v w le short =
    let a = binary_length v in
    let b = binary_length w in
    let c = decimal_len-mono (length v) (length w) le (omega arith) in
    omega arith

pub binary_most : (min max : ℕ) (v : List ℕ) → max ≤ 10000 → Counts IsByte min max v
    → binary_len v ≤ binary_len (replicate max 255)
binary_most min max v short h =
    let c = fill_len max 255 in binary_mono v (replicate max 255) (omega (arith, h.most)) (omega arith)

pub binary_least : (min max : ℕ) (v : List ℕ) → max ≤ 10000 → Counts IsByte min max v
    → binary_len (replicate min 0) ≤ binary_len v
binary_least min max v short h =
    let c = fill_len min 0 in binary_mono (replicate min 0) v (omega (arith, h.least)) (omega (arith, h.most))
