-- HIRMG 2 and HIRMS 2: in each element from 2 on, item 1 is a code of four digits; where it is empty, the element is skipped.
use Rattle.std.specs.Prelude.{ℕ, ◌+◌, ◌&&◌, ◌||◌, Bool, not, if◌then◌else◌, List, [], map, get_or, codes, Option, None, position}
use Rattle.std.specs.List.{filter, filter_map, flat_map}
use Rattle.std.specs.Option.{is_some, option_map}
use Rattle.fints_syntax_segments.specs.Number.{number_in}
use Rattle.fints_syntax_segments.specs.declared.item.OwnedItem.{OwnedItem}
use Rattle.fints_syntax_segments.specs.declared.item.OwnedSegment.{OwnedSegment}
use Rattle.fints_syntax_segments.specs.Segment.{item_value}
use Rattle.fints_params.specs.declared.fault.ParamFault.{ParamFault}
use Rattle.fints_params.specs.declared.fault.ParamFault.TheVariants.{BadElement}
use Rattle.fints_syntax_segments.specs.Values.{is_named}
use Rattle.fints_params.specs.Reading.{is_empty}

-- the number that exactly four digits spell
abbrev pub code_in : List ℕ → Option ℕ
code_in bytes = number_in 4 4 bytes

abbrev pub is_feedback : OwnedSegment → Bool
is_feedback s = is_named s (codes "HIRMG") 2 || is_named s (codes "HIRMS") 2

-- the value of item 1 of an element
abbrev pub first_value : List OwnedItem → List ℕ
first_value items = get_or (map item_value items) 0 []

abbrev pub codes_of : OwnedSegment → List ℕ
codes_of s = filter_map code_in (map first_value s.elements)

-- the codes of all segments of feedback, in their order
abbrev pub codes_in : List OwnedSegment → List ℕ
codes_in segments = flat_map codes_of (filter is_feedback segments)

-- neither empty nor a code
abbrev pub is_bad_code : List ℕ → Bool
is_bad_code bytes = not (is_empty bytes) && not (is_some (code_in bytes))

-- the least element whose item 1 is neither
abbrev pub codes_fault : OwnedSegment → Option ℕ
codes_fault s = option_map (λ i. i + 2) (position is_bad_code (map first_value s.elements))

abbrev pub bad_code : OwnedSegment → Option ℕ
bad_code s = if is_feedback s then codes_fault s else None

-- why a segment is refused, whatever comes before it
abbrev pub feedback_fault : List OwnedSegment → OwnedSegment → Option ParamFault
feedback_fault before s = option_map (λ e. BadElement s.head.number e) (bad_code s)
