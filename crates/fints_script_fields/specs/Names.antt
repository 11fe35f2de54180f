-- Names of fields, signers and steps.
use Rattle.std.specs.Prelude.{ℕ, nat_le, nat_lt, Bool, ◌&&◌, ◌||◌, ◌==◌, IsTrue, List, length}
use Rattle.std.specs.List.{list_all}

-- a small letter, a digit, `_` (95) or `-` (45)
abbrev pub is_name_byte : ℕ → Bool
is_name_byte b = ((nat_le 97 b && nat_le b 122) || (nat_le 48 b && nat_le b 57)) || (b == 95 || b == 45)

-- 1 to 40 such characters
abbrev pub is_name : List ℕ → Bool
is_name text = (nat_lt 0 (length text) && nat_le (length text) 40) && list_all is_name_byte text

abbrev pub IsName : List ℕ → Type 0
IsName text = IsTrue (is_name text)
