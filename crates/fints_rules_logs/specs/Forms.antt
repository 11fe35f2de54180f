-- How a file writes bytes: as they are, as characters in UTF-8, or in base64 as logs and JSON break it.
use Rattle.std.specs.Prelude.{codes, ◌≡◌, ℕ, zero, suc, ◌+◌, ◌==◌, ◌&&◌, ◌||◌, nat_le, nat_lt, Bool, if◌then◌else◌, List, [], ◌∷◌, ◌++◌, length, take, drop, replicate, Option, Some, None}
use Rattle.std.specs.Option.{option_and_then, option_map}
use Rattle.std.specs.Str.{bytes_eq}
use Rattle.base64.specs.Engines.{standard}
use Rattle.base64.specs.GeneralPurpose.{encode_of, IsBytes}
use Rattle.base64.specs.Rfc4648.{padding_len, unpadded_len}
use Rattle.fints_rules_logs.specs.declared.form.Form.{Form}
use Rattle.fints_rules_logs.specs.declared.form.Form.TheVariants.{Raw, Utf8, Base64}

abbrev pub begins_with : List ℕ → List ℕ → Bool
begins_with front text = bytes_eq front (take (length front) text)

-- ---- characters

-- the second byte of a character from U+0080 to U+00FF
abbrev pub is_second : ℕ → Bool
is_second b = nat_le 128 b && nat_lt b 192

-- the character at the front, one of U+0000 to U+00FF in UTF-8, as its byte in ISO 8859-1; and what comes after it
abbrev pub char_at : List ℕ → Option (ℕ × List ℕ)
char_at [] = None
char_at (b ∷ []) = if nat_lt b 128 then Some (b, []) else None
char_at (b ∷ c ∷ bs) =
    if nat_lt b 128 then Some (b, c ∷ bs)
    else if b == 194 && is_second c then Some (c, bs)
    else if b == 195 && is_second c then Some (c + 64, bs)
    else None

-- ---- letters of base64

abbrev pub is_letter : ℕ → Bool
is_letter b =
    (nat_le 65 b && nat_le b 90) || (nat_le 97 b && nat_le b 122) || (nat_le 48 b && nat_le b 57) || b == 43
    || b == 47

-- CR, LF, a blank, a tab
abbrev pub is_gap : ℕ → Bool
is_gap b = b == 13 || b == 10 || b == 32 || b == 9

-- r, n, t: what JSON writes after a backslash for CR, LF, a tab
abbrev pub is_gap_escape : ℕ → Bool
is_gap_escape b = b == 114 || b == 110 || b == 116

-- what comes after the gaps at the front
abbrev pub after_gaps : List ℕ → List ℕ
after_gaps [] = []
after_gaps (b ∷ []) = if is_gap b then [] else b ∷ []
after_gaps (b ∷ c ∷ bs) =
    if is_gap b then after_gaps (c ∷ bs)
    else if b == 92 && is_gap_escape c then after_gaps bs
    else b ∷ c ∷ bs

-- `+` and `/` at the front, as JSON escapes them by their numbers
abbrev pub is_escaped_plus : List ℕ → Bool
is_escaped_plus text = begins_with (codes "\\u002b") text || begins_with (codes "\\u002B") text

abbrev pub is_escaped_slash : List ℕ → Bool
is_escaped_slash text = begins_with (codes "\\u002f") text || begins_with (codes "\\u002F") text

-- the letter at the front as JSON escapes it, and what comes after it
abbrev pub escaped_letter : List ℕ → Option (ℕ × List ℕ)
escaped_letter text =
    if begins_with (codes "\\/") text then Some (47, drop 2 text)
    else if is_escaped_plus text then Some (43, drop 6 text)
    else if is_escaped_slash text then Some (47, drop 6 text)
    else None

-- the letter at the front, as it is or escaped
abbrev pub letter_here : List ℕ → Option (ℕ × List ℕ)
letter_here [] = None
letter_here (b ∷ bs) = if is_letter b then Some (b, bs) else escaped_letter (b ∷ bs)

-- the first letter, and what comes after it
abbrev pub letter_at : List ℕ → Option (ℕ × List ℕ)
letter_at text = letter_here (after_gaps text)

-- ---- bytes

-- what a form writes as one: a byte, a character or a letter
abbrev pub unit_at : Form → List ℕ → Option (ℕ × List ℕ)
unit_at Raw [] = None
unit_at Raw (b ∷ bs) = Some (b, bs)
unit_at Utf8 text = char_at text
unit_at Base64 text = letter_at text

-- the first units of a text, as many as there are to be, and what comes after them
abbrev pub first_units : Form → ℕ → List ℕ → Option (List ℕ × List ℕ)
first_units form zero text = Some ([], text)
first_units form (suc n) text =
    option_and_then (λ u. option_map (λ r. (u.0 ∷ r.0, r.1)) (first_units form n u.1)) (unit_at form text)

-- The letters are those of the bytes, without padding. With an A (65) for each padding they are the base64 of
-- the bytes and of as many more: whatever the last bits are, they belong to no byte.
pub record AreLettersOf (bytes letters : List ℕ) : Type 0 where
  pub more : List ℕ
  pub more_len : length more ≡ padding_len (length bytes)
  pub each : IsBytes (bytes ++ more)
  pub text : letters ++ replicate (length more) 65 ≡ encode_of standard (bytes ++ more)

-- the text begins with the bytes, written in the form, and then this is left
abbrev pub IsWritten : Form → List ℕ → List ℕ → List ℕ → Type 0
IsWritten Base64 text bytes left =
    (letters : List ℕ) × (first_units Base64 (unpadded_len (length bytes)) text ≡ Some (letters, left))
    × AreLettersOf bytes letters
IsWritten form text bytes left = first_units form (length bytes) text ≡ Some (bytes, left)
