-- HIabcS and DIabcS, but for HIPINS, are for order HKabc or DKabc of the segment's version: element 2
-- greatest number of orders, 3 least number of signatures. One without these two numbers is skipped and
-- counted.
use Rattle.std.specs.Prelude.{ℕ, ◌==◌, ◌||◌, ◌&&◌, Bool, not, List, [], ◌∷◌, length, get_or, codes, if◌then◌else◌, Option, None}
use Rattle.std.specs.Option.{is_some, option_and_then, option_map}
use Rattle.std.specs.Str.{bytes_eq}
use Rattle.fints_syntax_segments.specs.declared.item.OwnedSegment.{OwnedSegment}
use Rattle.fints_syntax.specs.Kind.{kind_from}
use Rattle.fints_params.specs.declared.rows.OrderParam.{OrderParam}
use Rattle.fints_syntax_segments.specs.Values.{value_at}
use Rattle.fints_syntax_segments.specs.Number.{number_of}

-- the byte at a place of the identifier is this letter; places count from 0
abbrev pub has_letter : List ℕ → ℕ → List ℕ → Bool
has_letter id place letter = get_or id place 0 == get_or letter 0 0

-- HIabcS and DIabcS, but for HIPINS
abbrev pub is_order_identifier : List ℕ → Bool
is_order_identifier id =
    length id == 6 && (has_letter id 0 (codes "H") || has_letter id 0 (codes "D"))
    && has_letter id 1 (codes "I") && has_letter id 5 (codes "S")
    && not (bytes_eq id (codes "HIPINS"))

-- the kind of the orders that the identifier speaks of: HKabc or DKabc
abbrev pub kind_of_orders : List ℕ → Option (List ℕ)
kind_of_orders id =
    if is_order_identifier id
    then kind_from (get_or id 0 0 ∷ get_or (codes "K") 0 0 ∷ get_or id 2 0 ∷ get_or id 3 0 ∷ get_or id 4 0
    ∷ []) else None

-- what the segment says of the kind, if it has both numbers
abbrev pub order_of : OwnedSegment → List ℕ → Option OrderParam
order_of s kind =
    option_and_then
    (λ n.
    option_map (λ k. record { kind = kind; version = s.head.version; orders = n; signatures = k })
    (number_of (value_at s 3 1)))
    (number_of (value_at s 2 1))

-- of a parameter segment
abbrev pub order_in : OwnedSegment → Option OrderParam
order_in s = option_and_then (λ k. order_of s k) (kind_of_orders s.head.id)

-- a parameter segment without the numbers
abbrev pub is_odd_order : OwnedSegment → Bool
is_odd_order s = is_some (kind_of_orders s.head.id) && not (is_some (order_in s))
