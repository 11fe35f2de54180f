-- The elements of an owned segment, which are all whole; each filling has an item in each whole one.
use Rattle.std.specs.Prelude.{◌≡◌, List, []}
use Rattle.fints_syntax_segments.specs.declared.item.OwnedItem.{OwnedItem}
use Rattle.fints_syntax_segments.specs.declared.item.Elements.TheInside.{Inside}

abbrev pub elements_of : Inside → List (List OwnedItem)
elements_of e = e.filling.elements

abbrev pub IsElements : Inside → Type 0
IsElements e = e.filling.items ≡ []
