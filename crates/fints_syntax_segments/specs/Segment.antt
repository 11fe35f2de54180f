-- The text of a segment: elements with `+` (43) between them, the items of an element with `:` (58) between them, and `'` (39) at the end.
use Rattle.fints_syntax_segments.specs.declared.limits.TheConstants.{MAX_BYTES, MAX_ITEMS}
use Rattle.std.specs.Prelude.{ℕ, ◌<◌, ◌≤◌, List, [], ◌∷◌, ◌++◌, length, map, Option, None, IsSome}
use Rattle.std.specs.List.{flat_map, AllByRecursion}
use Rattle.fints_syntax_segments.specs.declared.item.Head.{Head}
use Rattle.fints_syntax_segments.specs.declared.item.OwnedItem.{OwnedItem}
use Rattle.fints_syntax_segments.specs.declared.item.OwnedItem.TheVariants.{Text, Bin}
use Rattle.fints_syntax_segments.specs.Spelling.{Spelled, spelled_bytes, item_of, IsSpelled}
use Rattle.fints_syntax_segments.specs.Head.{head_from}

-- an item and the byte after it
pub record Token : Type 0 where
  pub item : Spelled
  pub after : ℕ

abbrev pub token_bytes : Token → List ℕ
token_bytes t = spelled_bytes t.item ++ t.after ∷ []

abbrev pub tokens_bytes : List Token → List ℕ
tokens_bytes ts = flat_map token_bytes ts

-- the items of an element with `:` between them, and `end` after the last
abbrev pub element_tokens : ℕ → List Spelled → List Token
element_tokens end [] = []
element_tokens end (s ∷ []) = record { item = s; after = end } ∷ []
element_tokens end (s ∷ t ∷ ss) = record { item = s; after = 58 } ∷ element_tokens end (t ∷ ss)

-- the elements with `+` between them, and `'` after the last
abbrev pub segment_tokens : List (List Spelled) → List Token
segment_tokens [] = []
segment_tokens (e ∷ []) = element_tokens 39 e
segment_tokens (e ∷ f ∷ es) = element_tokens 43 e ++ segment_tokens (f ∷ es)

abbrev pub segment_bytes : List (List Spelled) → List ℕ
segment_bytes elements = tokens_bytes (segment_tokens elements)

abbrev pub item_value : OwnedItem → List ℕ
item_value (Text bytes) = bytes
item_value (Bin bytes) = bytes

-- the elements by their values
abbrev pub values_of : List (List Spelled) → List (List OwnedItem)
values_of elements = map (λ e. map item_of e) elements

abbrev pub element_head : List OwnedItem → Option Head
element_head items = head_from (map item_value items)

-- the head is element 1
abbrev pub head_of : List (List OwnedItem) → Option Head
head_of [] = None
head_of (e ∷ es) = element_head e

-- a segment but for its head
pub record IsFramed (elements : List (List Spelled)) : Type 0 where
  pub some : 0 < length elements
  pub nonempty : AllByRecursion (λ e. 0 < length e) elements
  pub spelled : AllByRecursion (λ e. AllByRecursion IsSpelled e) elements
  pub bytes : length (segment_bytes elements) ≤ MAX_BYTES
  pub items : length (segment_tokens elements) ≤ MAX_ITEMS

pub record IsSegment (elements : List (List Spelled)) : Type 0 where
  pub framed : IsFramed elements
  pub head : IsSome (head_of (values_of elements))
