-- The laws of a stream that is fed in pieces. Each but `AreGiven` and `HasGiven`, which they speak of, is a clause of `any_cutting`.
use Rattle.std.specs.Prelude.{◌≡◌, ◌≢◌, ◌+◌, ◌≤◌, ℕ, List, [], ◌∷◌, ◌++◌, length, map, None}
use Rattle.std.specs.List.{flat_map}
use Rattle.fints_syntax.specs.Capture.{IsPlacedCapture}
use Rattle.fints_syntax.specs.Owned.{segment_of}
use Rattle.fints_syntax.specs.Streams.{SplitsInto, PieceFaultAt, whole_len}
use Rattle.fints_syntax.specs.declared.capture.Placed.{Placed}
use Rattle.fints_syntax.specs.declared.fault.SyntaxFault.{SyntaxFault}
use Rattle.fints_syntax.specs.declared.fault.SyntaxKind.TheVariants.{Memory}
use Rattle.fints_syntax_segments.specs.declared.item.OwnedSegment.{OwnedSegment}
use Rattle.fints_syntax.specs.declared.capture.TheConstants.{MAX_CAPTURE}
use Rattle.fints_syntax.specs.Feeding.{Fed, IsEnded, IsGiven, IsNotGiven, unfed}

-- a feeder takes these pieces, one after the other, and they give these segments
abbrev pub AreGiven : Fed → List (List ℕ) → List OwnedSegment → Fed → Type 0
AreGiven old [] segments new = (segments ≡ []) × (new ≡ old)
AreGiven old (p ∷ ps) segments new =
    (first more : List OwnedSegment) × (next : Fed) × IsGiven old p first next × (segments ≡ first ++ more)
    × AreGiven next ps more new

-- a feeder has given the whole segments of a stream, and keeps what is left of it
pub record HasGiven (stream : List ℕ) (segments : List OwnedSegment) (fed : Fed) : Type 0 where
  pub placed : List Placed
  pub split : SplitsInto stream placed fed.rest
  pub segments_are : segments ≡ map (λ p. segment_of p.segment) placed
  pub at_is : fed.at ≡ whole_len stream fed.rest
  pub within : fed.at + length fed.rest ≤ MAX_CAPTURE
  pub sound : fed.failed ≡ None

-- however a stream is cut, its pieces together give its whole segments
abbrev pub AnyCutting : Type 0
AnyCutting =
    (pieces : List (List ℕ)) (segments : List OwnedSegment) (fed : Fed) → AreGiven unfed pieces segments fed
    → HasGiven (flat_map (λ p. p) pieces) segments fed

-- the fault that refuses a piece is that of the stream so far, with its offset there
abbrev pub FaultIsOfStream : Type 0
FaultIsOfStream =
    (stream piece : List ℕ) (segments : List OwnedSegment) (fed new : Fed) (f : SyntaxFault)
    → HasGiven stream segments fed → IsNotGiven fed.failed fed piece f new → f.kind ≢ Memory
    → PieceFaultAt MAX_CAPTURE f.kind f.offset (stream ++ piece)

-- a stream that may end is a capture of the segments that were given
abbrev pub EndedIsCapture : Type 0
EndedIsCapture =
    (stream : List ℕ) (segments : List OwnedSegment) (fed : Fed) → HasGiven stream segments fed → IsEnded fed
    → (placed : List Placed) × IsPlacedCapture stream placed
    × (segments ≡ map (λ p. segment_of p.segment) placed)
