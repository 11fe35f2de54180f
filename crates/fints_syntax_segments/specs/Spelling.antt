-- How an item is spelled. `?` is 63, `@` is 64, and the separators are `+` 43, `:` 58 and `'` 39.
use Rattle.std.specs.Prelude.{◌≡◌, ◌≢◌, ℕ, ◌<◌, ◌≤◌, Bool, ◌||◌, ◌==◌, if◌then◌else◌, List, [], ◌∷◌, ◌++◌, length, map}
use Rattle.std.specs.List.{flat_map, AllByRecursion}
use Rattle.std.specs.Fmt.{decimal}
use Rattle.std.specs.Str.Parse.{AllDigits, digits_value}
use Rattle.fints_syntax_segments.specs.declared.item.OwnedItem.{OwnedItem}
use Rattle.fints_syntax_segments.specs.declared.item.OwnedItem.TheVariants.{Text, Bin}

-- A unit of a text: `?` with any byte, or a byte for itself.
pub data TextUnit : Type 0 where
  escaped : ℕ → TextUnit
  plain : ℕ → TextUnit

abbrev pub unit_bytes : TextUnit → List ℕ
unit_bytes (escaped b) = 63 ∷ b ∷ []
unit_bytes (plain b) = b ∷ []

abbrev pub unit_value : TextUnit → ℕ
unit_value (escaped b) = b
unit_value (plain b) = b

-- one of `+`, `:` and `'`, which end an item
abbrev pub is_separator : ℕ → Bool
is_separator b = b == 43 || b == 58 || b == 39

-- no separator and no `?` stands for itself
abbrev pub IsUnit : TextUnit → Type 0
IsUnit (escaped b) = Unit {0}
IsUnit (plain b) = (b ≢ 43) × (b ≢ 58) × (b ≢ 39) × (b ≢ 63)

-- an `@` by itself is no first unit
abbrev pub IsTextStart : List TextUnit → Type 0
IsTextStart [] = Unit {0}
IsTextStart (escaped b ∷ us) = Unit {0}
IsTextStart (plain b ∷ us) = b ≢ 64

abbrev pub text_bytes : List TextUnit → List ℕ
text_bytes us = flat_map unit_bytes us

abbrev pub text_value : List TextUnit → List ℕ
text_value us = map unit_value us

-- An item as it is spelled: the units of a text, or the digits of a length and that many bytes.
pub data Spelled : Type 0 where
  text : List TextUnit → Spelled
  binary : List ℕ → List ℕ → Spelled

abbrev pub spelled_bytes : Spelled → List ℕ
spelled_bytes (text us) = text_bytes us
spelled_bytes (binary digits bytes) = 64 ∷ (digits ++ 64 ∷ bytes)

-- the value of the item
abbrev pub item_of : Spelled → OwnedItem
item_of (text us) = Text (text_value us)
item_of (binary digits bytes) = Bin bytes

-- 1 to 9 digits
abbrev pub IsLength : List ℕ → Type 0
IsLength digits = AllDigits 10 digits × (0 < length digits) × (length digits ≤ 9)

abbrev pub IsSpelled : Spelled → Type 0
IsSpelled (text us) = AllByRecursion IsUnit us × IsTextStart us
IsSpelled (binary digits bytes) = IsLength digits × (digits_value 10 digits ≡ length bytes)

-- The written spelling escapes the five syntax characters, and gives a length no leading zeros.
abbrev pub written_unit : ℕ → TextUnit
written_unit b = if (is_separator b || b == 63 || b == 64) then escaped b else plain b

abbrev pub written_item : OwnedItem → Spelled
written_item (Text bytes) = text (map written_unit bytes)
written_item (Bin bytes) = binary (decimal (length bytes)) bytes

abbrev pub written : OwnedItem → List ℕ
written item = spelled_bytes (written_item item)
