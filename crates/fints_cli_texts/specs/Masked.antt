-- Segments without their secrets: PIN, TAN and new PIN are masked, with all that is in their segments after them, and
-- sealed data, which hold them too, are left out.
use Rattle.std.specs.Prelude.{ℕ, ◌-◌, Bool, ◌&&◌, nat_le, if◌then◌else◌, List, [], ◌∷◌, ◌++◌, length, map, set, take, drop, codes}
use Rattle.std.specs.Char.{is_ascii_alphanumeric}
use Rattle.std.specs.List.{list_all}
use Rattle.std.specs.Str.{bytes_eq}
use Rattle.fints_syntax_segments.specs.declared.item.OwnedItem.{OwnedItem}
use Rattle.fints_syntax_segments.specs.declared.item.OwnedItem.TheVariants.{Text}
use Rattle.fints_syntax_segments.specs.declared.item.OwnedSegment.{OwnedSegment}
use Rattle.fints_syntax_segments.specs.Segment.{item_value}
use Rattle.fints_syntax_segments.specs.Values.{items_in, value_at}

-- of a secret nothing is shown but whether there is one
abbrev pub mask : List ℕ → OwnedItem
mask [] = Text []
mask (b ∷ bs) = Text (codes "***")

-- each item of an element masked
abbrev pub masked_items : List OwnedItem → List OwnedItem
masked_items items = map mask (map item_value items)

-- the segment with these elements in place of those from one on, which is 2 or a later one
abbrev pub with_elements : OwnedSegment → ℕ → List (List OwnedItem) → OwnedSegment
with_elements s from elements = record s { elements = take (from - 2) s.elements ++ elements }

-- each item masked of the elements from one on
abbrev pub masked_from : OwnedSegment → ℕ → OwnedSegment
masked_from s from = with_elements s from (map masked_items (drop (from - 2) s.elements))

-- the segment with these items in an element, from 2 on, where it has that element
abbrev pub with_items : OwnedSegment → ℕ → List OwnedItem → OwnedSegment
with_items s element items = record s { elements = set s.elements (element - 2) items }

-- item 1 of the element empty
abbrev pub emptied_at : OwnedSegment → ℕ → OwnedSegment
emptied_at s element = with_items s element (Text [] ∷ drop 1 (items_in s element))

-- the control reference of a signature, element 2 of HNSHA, is one item of letters and digits, or is absent
abbrev pub has_reference : OwnedSegment → Bool
has_reference s = nat_le (length (items_in s 2)) 1 && list_all is_ascii_alphanumeric (value_at s 2 1)

-- PIN and TAN are in element 4 of HNSHA, and element 3 is empty beside them. Where a client writes a `+` too few or too
-- many, PIN and TAN are in another element; in element 2 no control reference is left then
abbrev pub secrets_from : OwnedSegment → ℕ
secrets_from s = if has_reference s then 3 else 2

-- all from there on is masked in HNSHA, and in HKPAE all from the new PIN on, which is in element 2; HNVSD has sealed
-- data in element 2
abbrev pub masked : OwnedSegment → OwnedSegment
masked s =
    if bytes_eq s.head.id (codes "HNSHA") then masked_from s (secrets_from s)
    else if bytes_eq s.head.id (codes "HKPAE") then masked_from s 2
    else if bytes_eq s.head.id (codes "HNVSD") then emptied_at s 2
    else s
