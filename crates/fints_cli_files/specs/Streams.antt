-- What the calls of a stream do to the bytes that are known of it.
use Rattle.std.specs.Prelude.{min, ◌+◌, ◌-◌, ◌^◌, ◌≡◌, ℕ, ◌||◌, ◌&&◌, ◌==◌, nat_lt, Bool, true, List, [], ◌++◌, take, drop, length, ◌≤◌, ◌<◌, IfSome, ⊤, Option, None, Some, Result, Ok, Err, MatchResult}
use Rattle.fints_cli_files.specs.declared.streams.WriteFault.{WriteFault}
use Rattle.fints_cli_files.specs.declared.streams.ReadFault.{ReadFault}

-- a count after one more, up to the greatest `u64`
abbrev pub one_more : ℕ → ℕ
one_more count = min (count + 1) (2 ^ 64 - 1)

-- A write failed: a fault, no byte of a piece that is not empty, or more bytes than the piece has.
abbrev pub is_failed_write : ℕ → Result ℕ WriteFault → Bool
is_failed_write size (Ok count) = (count == 0 && nat_lt 0 size) || nat_lt size count
is_failed_write size (Err fault) = true

-- how many reads were asked for so far, and how many of them failed, each counted up to the greatest `u64`
pub record ReadCounts : Type 0 where
  pub calls : ℕ
  pub failed : ℕ

-- a read failed: a fault, or more bytes than the buffer has
abbrev pub is_failed_read : ℕ → Result ℕ ReadFault → Bool
is_failed_read size (Ok count) = nat_lt size count
is_failed_read size (Err fault) = true

-- a stream whose bytes are known got these after the earlier ones
abbrev pub Gets : Option (List ℕ) → Option (List ℕ) → List ℕ → Type 0
Gets None new bytes = ⊤
Gets (Some before) None bytes = ⊥
Gets (Some before) (Some after) bytes = after ≡ before ++ bytes

-- a stream whose bytes are known got nothing
abbrev pub GetsNothing : Option (List ℕ) → Option (List ℕ) → Type 0
GetsNothing old new = Gets old new []

-- a stream whose bytes are known got a prefix of these after the earlier ones
abbrev pub GetsPrefix : Option (List ℕ) → Option (List ℕ) → List ℕ → Type 0
GetsPrefix None new bytes = ⊤
GetsPrefix (Some before) None bytes = ⊥
GetsPrefix (Some before) (Some after) bytes = (count : ℕ) × (after ≡ before ++ take count bytes)

-- a write took the bytes that it answered, or at a fault a prefix of the piece
abbrev pub TakesPiece : Option (List ℕ) → Option (List ℕ) → List ℕ → Result ℕ WriteFault → Type 0
TakesPiece old new piece result =
    MatchResult result (λ count. Gets old new (take count piece)) (λ _. GetsPrefix old new piece)

-- A read of a file whose bytes are known gave those at the place, and none only at the end. A claim past the buffer says nothing.
abbrev pub ReadsFrom : Option (List ℕ) → ℕ → List ℕ → Result ℕ ReadFault → Type 0
ReadsFrom held at buffer result =
    IfSome held (λ bytes. MatchResult result
    (λ count. count ≤ length buffer
    → (take count buffer ≡ take count (drop at bytes))
    × (count ≡ 0 → 0 < length buffer → length bytes ≤ at))
    (λ _. ⊤))

-- what was loaded is what the file holds, where that is known
abbrev pub IsFile : Option (List ℕ) → List ℕ → Type 0
IsFile held loaded = IfSome held (λ bytes. loaded ≡ bytes)
