-- A segment's elements and items by value. Both count from 1, and what is absent is empty. These words hold
-- from element 2 on: the head is element 1, and its items are the fields of `head`.
use Rattle.std.specs.Prelude.{ℕ, ◌-◌, ◌==◌, ◌&&◌, Bool, List, [], get_or, map}
use Rattle.std.specs.Str.{bytes_eq}
use Rattle.fints_syntax_segments.specs.declared.item.OwnedItem.{OwnedItem}
use Rattle.fints_syntax_segments.specs.declared.item.OwnedItem.TheVariants.{Text}
use Rattle.fints_syntax_segments.specs.declared.item.OwnedSegment.{OwnedSegment}
use Rattle.fints_syntax_segments.specs.Segment.{item_value}

-- the segment has this identifier and version
abbrev pub is_named : OwnedSegment → List ℕ → ℕ → Bool
is_named s id version = bytes_eq s.head.id id && s.head.version == version

-- the items of an element, from 2 on
abbrev pub items_in : OwnedSegment → ℕ → List OwnedItem
items_in s e = get_or s.elements (e - 2) []

-- an item, from 1 on, of an element, from 2 on; an absent one is an empty text
abbrev pub item_at : OwnedSegment → ℕ → ℕ → OwnedItem
item_at s e i = get_or (items_in s e) (i - 1) (Text [])

-- the values of the items of an element, from 2 on
abbrev pub values_at : OwnedSegment → ℕ → List (List ℕ)
values_at s e = map item_value (items_in s e)

-- the value of an item, from 1 on, of an element, from 2 on; an absent one is empty
abbrev pub value_at : OwnedSegment → ℕ → ℕ → List ℕ
value_at s e i = get_or (values_at s e) (i - 1) []
