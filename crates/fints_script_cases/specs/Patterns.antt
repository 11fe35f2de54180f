-- Patterns of feedback codes, which are numbers from 0 to 9,999.
use Rattle.std.specs.Prelude.{ℕ, ◌+◌, ◌/◌, ◌%◌, ◌==◌, ◌&&◌, ◌||◌, if◌then◌else◌, Bool, List, [], ◌∷◌, length, Option, Some, None}
use Rattle.std.specs.List.{list_all, zip}
use Rattle.std.specs.Char.{is_ascii_digit}

-- a digit or `*` (42)
abbrev pub is_place : ℕ → Bool
is_place c = is_ascii_digit c || c == 42

-- four of these
abbrev pub is_pattern : List ℕ → Bool
is_pattern text = (length text == 4) && list_all is_place text

abbrev pub pattern_in : List ℕ → Option (List ℕ)
pattern_in text = if is_pattern text then Some text else None

-- the four digits of a code, as characters
abbrev pub code_text : ℕ → List ℕ
code_text code =
    (48 + code / 1000) ∷ (48 + (code / 100) % 10) ∷ (48 + (code / 10) % 10) ∷ (48 + code % 10) ∷ []

-- a place is `*` or has that digit
abbrev pub fits : ℕ → ℕ → Bool
fits place digit = place == 42 || place == digit

-- each place of the pattern is `*` or has the code's digit there
abbrev pub matches : List ℕ → ℕ → Bool
matches pattern code = list_all (λ (p : ℕ × ℕ). fits p.0 p.1) (zip pattern (code_text code))
