-- A feeder: what it keeps of a stream that comes in pieces, what each piece gives, and why a piece or the end is refused.
use Rattle.std.specs.Prelude.{◌≡◌, ◌⊎◌, ◌+◌, ◌-◌, ◌≤◌, ℕ, List, [], ◌∷◌, ◌++◌, length, map, Option, Some, None}
use Rattle.std.specs.List.{AllByRecursion}
use Rattle.fints_syntax.specs.Buffered.{failed_at}
use Rattle.fints_syntax.specs.Capture.{IsBreak}
use Rattle.fints_syntax.specs.Owned.{segment_of}
use Rattle.fints_syntax.specs.Streams.{SplitsInto, IsMemory, PieceFaultAt, moved_by, whole_len, data_place}
use Rattle.fints_syntax.specs.declared.capture.Placed.{Placed}
use Rattle.fints_syntax.specs.declared.fault.SyntaxFault.{SyntaxFault}
use Rattle.fints_syntax.specs.declared.fault.SyntaxKind.TheVariants.{Incomplete}
use Rattle.fints_syntax.specs.declared.capture.TheConstants.{MAX_CAPTURE}
use Rattle.fints_syntax_segments.specs.declared.item.OwnedSegment.{OwnedSegment}

-- What a feeder keeps: the bytes after the last whole segment, their offset in the stream, once it has met a
-- fault the fault's offset, and the places of the segments that the last piece gave, one that was refused
-- because memory ran out not counted.
pub record Fed : Type 0 where
  pub rest : List ℕ
  pub at : ℕ
  pub failed : Option ℕ
  pub places : List ℕ

-- nothing was fed
abbrev pub unfed : Fed
unfed = record { rest = []; at = 0; failed = None; places = [] }

-- A piece gives the whole segments of the rest with the piece, by their values; what is left of it is the new rest. Offsets are counted in the stream.
pub record IsGiven (old : Fed) (piece : List ℕ) (segments : List OwnedSegment) (new : Fed) : Type 0 where
  pub sound : old.failed ≡ None
  pub placed : List Placed
  pub split : SplitsInto (old.rest ++ piece) placed new.rest
  pub segments_are : segments ≡ map (λ p. segment_of p.segment) (moved_by old.at placed)
  pub places_are : new.places ≡ map data_place (moved_by old.at placed)
  pub at_is : new.at ≡ old.at + whole_len (old.rest ++ piece) new.rest
  pub within : new.at + length new.rest ≤ MAX_CAPTURE
  pub still : new.failed ≡ None

-- what a feeder keeps then
abbrev pub stopped : Fed → ℕ → Fed
stopped fed offset = record { rest = []; at = fed.at; failed = Some offset; places = [] }

-- a sound feeder refuses a piece when memory runs out, and is as before, or for the stream's fault, then keeping only its offset
abbrev pub IsStopped : Fed → List ℕ → SyntaxFault → Fed → Type 0
IsStopped old piece f new =
    (IsMemory f × (new ≡ old))
    ⊎ ((o : ℕ) × (f.offset ≡ old.at + o) × PieceFaultAt (MAX_CAPTURE - old.at) f.kind o (old.rest ++ piece)
    × (new ≡ stopped old f.offset))

-- why a piece is refused, and what the feeder keeps then
abbrev pub IsNotGiven : Option ℕ → Fed → List ℕ → SyntaxFault → Fed → Type 0
IsNotGiven (Some offset) old piece f new = (f ≡ failed_at offset) × (new ≡ old)
IsNotGiven None old piece f new = IsStopped old piece f new

-- the rest is line breaks and after them a segment that has begun, which has no end
pub record IsCut (fed : Fed) (f : SyntaxFault) : Type 0 where
  pub kind : f.kind ≡ Incomplete
  pub gap : List ℕ
  pub first : ℕ
  pub more : List ℕ
  pub breaks : AllByRecursion IsBreak gap
  pub no_break : IsBreak first → ⊥
  pub text : fed.rest ≡ gap ++ first ∷ more
  pub offset : f.offset ≡ fed.at + length gap

-- why the stream may not end here
abbrev pub IsUnended : Option ℕ → Fed → SyntaxFault → Type 0
IsUnended (Some offset) fed f = f ≡ failed_at offset
IsUnended None fed f = IsCut fed f

-- the stream may end here
abbrev pub IsEnded : Fed → Type 0
IsEnded fed = (fed.failed ≡ None) × AllByRecursion IsBreak fed.rest
