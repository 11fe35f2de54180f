-- The values of the classes of fields that count bytes, and how they are spelled.
use Rattle.std.specs.Prelude.{ℕ, ◌<◌, ◌≤◌, ◌⊎◌, List, [], ◌∷◌, length, All}
use Rattle.fints_syntax_segments.specs.declared.item.OwnedItem.{OwnedItem}
use Rattle.fints_syntax_segments.specs.declared.item.OwnedItem.TheVariants.{Text, Bin}
use Rattle.fints_script_fields.specs.declared.alphabet.Alphabet.{Alphabet}
use Rattle.fints_script_fields.specs.declared.alphabet.Alphabet.TheVariants.{Digits, Plain, Latin}

-- a digit; a letter or a digit; a character of ISO 8859-1 that isn't a control
abbrev pub IsCharacter : Alphabet → ℕ → Type 0
IsCharacter Digits b = (48 ≤ b) × (b ≤ 57)
IsCharacter Plain b = ((65 ≤ b) × (b ≤ 90)) ⊎ ((97 ≤ b) × (b ≤ 122)) ⊎ ((48 ≤ b) × (b ≤ 57))
IsCharacter Latin b = ((32 ≤ b) × (b ≤ 126)) ⊎ ((160 ≤ b) × (b ≤ 255))

-- a character of greatest written length: 9, Z or ?
abbrev pub longest_character : Alphabet → ℕ
longest_character Digits = 57
longest_character Plain = 90
longest_character Latin = 63

-- and one of least: 0 or A
abbrev pub shortest_character : Alphabet → ℕ
shortest_character Digits = 48
shortest_character Plain = 65
shortest_character Latin = 65

abbrev pub IsByte : ℕ → Type 0
IsByte b = b < 256

-- min to max bytes, each as P says
pub record Counts (P : ℕ → Type 0) (min max : ℕ) (value : List ℕ) : Type 0 where
  pub each : All P value
  pub least : min ≤ length value
  pub most : length value ≤ max

abbrev pub as_text : List ℕ → List OwnedItem
as_text value = Text value ∷ []

abbrev pub as_binary : List ℕ → List OwnedItem
as_binary value = Bin value ∷ []
