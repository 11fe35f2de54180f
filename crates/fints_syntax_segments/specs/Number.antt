-- Numbers of n digits; leading zeros are accepted.
use Rattle.std.specs.Prelude.{ℕ, ◌&&◌, nat_le, if◌then◌else◌, List, length, Option, Some, None}
use Rattle.std.specs.Str.{all_ascii_digits}
use Rattle.std.specs.Str.Parse.{digits_value}

-- the number that `least` to `most` digits spell
abbrev pub number_in : ℕ → ℕ → List ℕ → Option ℕ
number_in least most bytes =
    if (all_ascii_digits bytes && nat_le least (length bytes) && nat_le (length bytes) most) then Some
    (digits_value 10 bytes) else None

-- a number has 1 to 9 digits
abbrev pub number_of : List ℕ → Option ℕ
number_of bytes = number_in 1 9 bytes
