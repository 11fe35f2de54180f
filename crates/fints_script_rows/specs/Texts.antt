-- Texts of one byte a character (ISO 8859-1).
use Rattle.std.specs.Prelude.{ℕ, ◌%◌, Bool, ◌&&◌, ◌||◌, nat_le, List, map}
use Rattle.std.specs.List.{list_all}
use Rattle.std.specs.Str.{chars}

-- U+0020 to U+007E, U+00A0 to U+00FF
abbrev pub is_latin1_char : ℕ → Bool
is_latin1_char c = (nat_le 0x20 c && nat_le c 0x7E) || (nat_le 0xA0 c && nat_le c 0xFF)

-- each character is one byte
abbrev pub is_latin1 : List ℕ → Bool
is_latin1 text = list_all is_latin1_char (chars text)

abbrev pub byte_of : ℕ → ℕ
byte_of c = c % 256

-- the bytes of such a text: the codes of its characters
abbrev pub latin1 : List ℕ → List ℕ
latin1 text = map byte_of (chars text)
