-- An item by its value, in place.
use Rattle.fints_syntax_segments.specs.declared.item.OwnedItem.{OwnedItem}
use Rattle.fints_syntax_segments.specs.declared.item.OwnedItem.TheVariants as Owned
use Rattle.fints_syntax_segments.specs.declared.element.ItemRef.{ItemRef}
use Rattle.fints_syntax_segments.specs.declared.element.ItemRef.TheVariants as Lent

abbrev pub item_of_ref : ItemRef → OwnedItem
item_of_ref (Lent.Text slice) = Owned.Text slice.now
item_of_ref (Lent.Bin slice) = Owned.Bin slice.now
