-- Bytes that are the texts of segments, one after the other.
use Rattle.std.specs.Prelude.{◌≡◌, ℕ, List}
use Rattle.std.specs.List.{flat_map, AllByRecursion}
use Rattle.fints_syntax_segments.specs.Spelling.{Spelled}
use Rattle.fints_syntax_segments.specs.Segment.{segment_bytes, IsSegment}
use Rattle.fints_syntax.specs.Owned.{segments_of}
use Rattle.fints_syntax_segments.specs.declared.item.OwnedSegment.{OwnedSegment}

abbrev pub texts_of : List (List (List Spelled)) → List ℕ
texts_of trees = flat_map segment_bytes trees

-- the bytes are the texts of these segments
pub record IsText (bytes : List ℕ) (segments : List OwnedSegment) : Type 0 where
  pub trees : List (List (List Spelled))
  pub each : AllByRecursion IsSegment trees
  pub text : bytes ≡ texts_of trees
  pub values : segments_of trees ≡ segments
