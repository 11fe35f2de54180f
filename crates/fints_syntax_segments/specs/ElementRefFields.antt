-- The items of an element, as places among the bytes.
use Rattle.std.specs.Prelude.{List, length}
use Rattle.std.specs.List.{AllByRecursion}
use Rattle.fints_syntax_segments.specs.declared.item.OwnedItem.{OwnedItem}
use Rattle.fints_syntax_segments.specs.declared.element.ElementRef.TheInside.{Inside}
use Rattle.fints_syntax_segments.specs.Flat.{all_items, IsSpanIn}

abbrev pub items_of : Inside → List OwnedItem
items_of e = all_items e.bytes.now e.spans.now

-- each is within the bytes
abbrev pub IsItems : Inside → Type 0
IsItems e = AllByRecursion (IsSpanIn (length e.bytes.now)) e.spans.now
