-- The values of items as they are spelled. Only private contracts use these words.
use Rattle.std.specs.Prelude.{ℕ, List, [], get_or, map}
use Rattle.fints_syntax_segments.specs.Segment.{item_value}
use Rattle.fints_syntax_segments.specs.Spelling.{Spelled, item_of}

-- the value of the first of these items; where there is none it is empty
abbrev pub first_value : List Spelled → List ℕ
first_value items = get_or (map item_value (map item_of items)) 0 []
