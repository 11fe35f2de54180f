-- Elements that are held in three lists: bytes, where items are in them, and where elements are in the items.
use Rattle.std.specs.Prelude.{◌<◌, ◌≤◌, ◌+◌, ℕ, List, length, map, take, drop, cond}
use Rattle.std.specs.List.{AllByRecursion}
use Rattle.fints_syntax_segments.specs.declared.item.OwnedItem.{OwnedItem}
use Rattle.fints_syntax_segments.specs.declared.item.OwnedItem.TheVariants.{Text, Bin}
use Rattle.fints_syntax_segments.specs.declared.element.Span.{Span}
use Rattle.fints_syntax_segments.specs.declared.flat.Group.{Group}
use Rattle.fints_syntax_segments.specs.declared.flat.Filling.TheInside.{Inside}

-- whole elements, and the items of one that is not whole yet
pub record Filled : Type 0 where
  pub elements : List (List OwnedItem)
  pub items : List OwnedItem

abbrev pub run_of : {A : Type 0} → List A → ℕ → ℕ → List A
run_of xs start len = take len (drop start xs)

abbrev pub spanned : List ℕ → Span → OwnedItem
spanned bytes s = cond s.binary (Bin (run_of bytes s.start s.len)) (Text (run_of bytes s.start s.len))

-- all items, and those of an element
abbrev pub all_items : List ℕ → List Span → List OwnedItem
all_items bytes spans = map (spanned bytes) spans

abbrev pub element_at : List OwnedItem → Group → List OwnedItem
element_at items g = run_of items g.first g.count

abbrev pub elements_at : List OwnedItem → List Group → List (List OwnedItem)
elements_at items groups = map (element_at items) groups

abbrev pub filled_of : Inside → Filled
filled_of f =
    record {
      elements = elements_at (all_items f.bytes.items f.spans.items) f.groups.items;
      items = drop f.open (all_items f.bytes.items f.spans.items);
    }

abbrev pub IsSpanIn : ℕ → Span → Type 0
IsSpanIn n s = s.start + s.len ≤ n

abbrev pub IsGroupIn : ℕ → Group → Type 0
IsGroupIn n g = (0 < g.count) × (g.first + g.count ≤ n)

pub record IsFlat (f : Inside) : Type 0 where
  pub spans : AllByRecursion (IsSpanIn (length f.bytes.items)) f.spans.items
  pub groups : AllByRecursion (IsGroupIn f.open) f.groups.items
  pub within : f.open ≤ length f.spans.items
