-- What is taken of a piece. Only private contracts use this file.
use Rattle.std.specs.Prelude.{◌≡◌, List, map}
use Rattle.fints_syntax.specs.Owned.{segment_of}
use Rattle.fints_syntax.specs.Streams.{data_place}
use Rattle.fints_syntax.specs.declared.capture.Placed.{Placed}
use Rattle.fints_syntax.specs.declared.taken.TakenSegments.{TakenSegments}

-- these segments, by their values and with their places
pub record AreTaken (placed : List Placed) (t : TakenSegments) : Type 0 where
  pub segments_are : t.segments.items ≡ map (λ p. segment_of p.segment) placed
  pub places_are : t.places.items ≡ map data_place placed
