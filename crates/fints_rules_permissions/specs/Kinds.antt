-- What a kind is: an administrative segment, an order, an HKTAN.
use Rattle.std.specs.Prelude.{codes, ℕ, ◌==◌, Bool, not, ◌&&◌, ◌||◌, if◌then◌else◌, length, take, List, Option, Some, None, is_some}
use Rattle.std.specs.Str.{bytes_eq}

-- the version that an administrative segment has; every other segment is an order
abbrev pub own_version : List ℕ → Option ℕ
own_version kind =
    if bytes_eq kind (codes "HKIDN") then Some 2
    else if bytes_eq kind (codes "HKVVB") then Some 3
    else if bytes_eq kind (codes "HKSYN") then Some 3
    else if bytes_eq kind (codes "HKEND") then Some 1
    else None

abbrev pub is_order : List ℕ → Bool
is_order kind = not (is_some (own_version kind))

abbrev pub is_tan_order : List ℕ → Bool
is_tan_order kind = bytes_eq kind (codes "HKTAN")

-- an order other than HKTAN
abbrev pub is_plain_order : List ℕ → Bool
is_plain_order kind = is_order kind && not (is_tan_order kind)

-- an order that may have a row in an order table: five characters, the first two HK or DK
abbrev pub is_table_kind : List ℕ → Bool
is_table_kind text =
    ((length text == 5) && (bytes_eq (take 2 text) (codes "HK") || bytes_eq (take 2 text) (codes "DK")))
    && is_plain_order text
