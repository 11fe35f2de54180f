-- HNVSD 1: item 1 of its element 2 is binary, and its data are segments. What only private contracts and proofs use comes last, under a heading.
use Rattle.std.specs.Prelude.{ℕ, Bool, List, length, slice_get, codes, Option, Some, None}
use Rattle.std.specs.Option.{option_and_then, option_map_or}
use Rattle.fints_syntax_segments.specs.declared.item.OwnedItem.{OwnedItem}
use Rattle.fints_syntax_segments.specs.declared.item.OwnedItem.TheVariants.{Text, Bin}
use Rattle.fints_syntax_segments.specs.declared.frames.TheConstants.{HNVSD_VERSION}
use Rattle.fints_syntax_segments.specs.declared.item.OwnedSegment.{OwnedSegment}
use Rattle.fints_syntax_segments.specs.Values.{is_named, items_in}

abbrev pub is_sealed : OwnedSegment → Bool
is_sealed s = is_named s (codes "HNVSD") HNVSD_VERSION

-- the bytes of a binary item
abbrev pub binary_bytes : OwnedItem → Option (List ℕ)
binary_bytes (Bin bytes) = Some bytes
binary_bytes (Text bytes) = None

-- the data, where item 1 of element 2 is binary
abbrev pub data_of : OwnedSegment → Option (List ℕ)
data_of s = option_and_then binary_bytes (slice_get (items_in s 2) 0)

-- ---- of private contracts and proofs only

-- how many bytes the data have
abbrev pub data_len : OwnedSegment → ℕ
data_len s = option_map_or length (data_of s) 0
