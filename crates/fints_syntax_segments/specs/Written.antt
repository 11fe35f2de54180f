-- The written text of a segment. What only private contracts and proofs use comes last, under a heading.
use Rattle.std.specs.Prelude.{◌≡◌, ℕ, ◌<◌, ◌≤◌, List, [], ◌∷◌, length, map, take, Option, Some, None, IfSome}
use Rattle.std.specs.List.{AllByRecursion}
use Rattle.std.specs.Fmt.{decimal}
use Rattle.fints_syntax_segments.specs.Kind.{IsKindText}
use Rattle.fints_syntax_segments.specs.declared.item.Head.{Head}
use Rattle.fints_syntax_segments.specs.declared.item.OwnedItem.{OwnedItem}
use Rattle.fints_syntax_segments.specs.declared.item.OwnedItem.TheVariants.{Text}
use Rattle.fints_syntax_segments.specs.declared.item.OwnedSegment.{OwnedSegment}
use Rattle.fints_syntax_segments.specs.Spelling.{Spelled, written_item}
use Rattle.fints_syntax_segments.specs.declared.limits.TheConstants.{MAX_BYTES, MAX_ITEMS}
use Rattle.fints_syntax_segments.specs.Segment.{tokens_bytes, element_tokens, segment_bytes, segment_tokens}

-- an absent reference is left out
abbrev pub reference_items : Option ℕ → List OwnedItem
reference_items None = []
reference_items (Some n) = Text (decimal n) ∷ []

abbrev pub head_items : Head → List OwnedItem
head_items h = Text h.id ∷ Text (decimal h.number) ∷ Text (decimal h.version) ∷ reference_items h.reference

-- all elements, the head first
abbrev pub segment_values : OwnedSegment → List (List OwnedItem)
segment_values s = head_items s.head ∷ s.elements

abbrev pub written_elements : List (List OwnedItem) → List (List Spelled)
written_elements es = map (λ e. map written_item e) es

abbrev pub written_tree : OwnedSegment → List (List Spelled)
written_tree s = written_elements (segment_values s)

abbrev pub written_segment : OwnedSegment → List ℕ
written_segment s = segment_bytes (written_tree s)

-- a list that still begins with what it held
abbrev pub KeepsFront : List ℕ → List ℕ → Type 0
KeepsFront old new = take (length old) new ≡ old

-- ---- of private contracts and proofs only

-- what a segment has, within the limits
pub record IsWritable (s : OwnedSegment) : Type 0 where
  pub id : IsKindText s.head.id
  pub number : s.head.number < 1000
  pub version : s.head.version < 1000
  pub reference : IfSome s.head.reference (λ n. n < 1000)
  pub nonempty : AllByRecursion (λ e. 0 < length e) s.elements
  pub bytes : length (written_segment s) ≤ MAX_BYTES
  pub items : length (segment_tokens (written_tree s)) ≤ MAX_ITEMS

-- the written text of an element, with the byte after it
abbrev pub element_text : ℕ → List OwnedItem → List ℕ
element_text end items = tokens_bytes (element_tokens end (map written_item items))

-- the written text of the elements, to the end of the segment
abbrev pub elements_text : List (List OwnedItem) → List ℕ
elements_text es = segment_bytes (written_elements es)
