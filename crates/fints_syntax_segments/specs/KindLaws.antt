-- What an identifier is, part by part. Only proofs and private contracts use this file.
use Rattle.std.proofs.Common.{◌≡◌, ℕ, ◌<◌, ◌≤◌, Bool, true, false, ◌&&◌, ◌||◌, leb, List, length, refl, ap, Some, None, cond}
use Rattle.std.specs.Prelude.{IsSome}
use Rattle.std.specs.List.{list_all}
use Rattle.std.specs.Char.{is_ascii_digit, is_ascii_uppercase}
use Rattle.std.proofs.lemmas.Bool.{leb-true, and_parts}
use Rattle.fints_syntax_segments.specs.Kind.{IsKindText, kind_from}

-- a capital letter or a digit
abbrev pub is_kind_byte : ℕ → Bool
is_kind_byte b = is_ascii_uppercase b || is_ascii_digit b

passes : (test : Bool) (bytes : List ℕ) → IsSome (cond test (Some bytes) None) → test ≡ true
passes true bytes h = refl
passes false bytes h = absurd cc

-- its characters, and how many they are
pub record IsSpelledKind (bytes : List ℕ) : Type 0 where
  pub each : list_all is_kind_byte bytes ≡ true
  pub some : 0 < length bytes
  pub most : length bytes ≤ 6

pub spelled_kind : (bytes : List ℕ) → IsKindText bytes → IsSpelledKind bytes
spelled_kind bytes h =
    let outer =
    and_parts (list_all is_kind_byte bytes && leb 1 (length bytes)) (leb (length bytes) 6)
    (passes _ bytes h) in
    let inner = and_parts (list_all is_kind_byte bytes) (leb 1 (length bytes)) outer.0 in
    record {
      each = inner.0;
      some = leb-true 1 (length bytes) inner.1;
      most = leb-true (length bytes) 6 outer.1;
    }

-- the text of a kind passes
pub kind_from-kind : (bytes : List ℕ) → IsKindText bytes → kind_from bytes ≡ Some bytes
kind_from-kind bytes h = ap (λ b. cond b (Some bytes) None) (passes _ bytes h)
