-- What a reader that goes from segment to segment has read so far, and where it stops. Only private contracts
-- and, by `Inside`, the invariant of `ParamReader` use this file.
use Rattle.std.specs.Prelude.{◌≡◌, ◌+◌, ◌≤◌, ℕ, ◌++◌, List, length, Option, Some, None}
use Rattle.fints_syntax_segments.specs.Segment.{segment_bytes}
use Rattle.fints_syntax.specs.Owned.{segment_of}
use Rattle.fints_syntax.specs.Streams.{IsReadTo, data_place}
use Rattle.fints_syntax.specs.declared.capture.Placed.{Placed}
use Rattle.fints_syntax.specs.declared.stream.ReadTo.{ReadTo}
use Rattle.fints_syntax_segments.specs.declared.item.OwnedSegment.{OwnedSegment}
use Rattle.fints_params.specs.declared.fault.ParamFault.{ParamFault}
use Rattle.fints_params.specs.Opened.{OpensTo, OpenTo, AreSegmentsOf}
use Rattle.fints_params.specs.Refused.{Rule, IsFirstRefused, IsRefusedAt, IsRefusedIn, values_in}
use Rattle.fints_syntax.specs.declared.capture.TheConstants.{MAX_CAPTURE}

-- a state that is right for what was seen is right after these segments too
abbrev pub Continues : {S : Type 0} → (List OwnedSegment → S → Type 0) → S → S → List OwnedSegment → Type 0
Continues Good old new segments = (seen : List OwnedSegment) → Good seen old → Good (seen ++ segments) new

-- the first refusal among these segments after what was seen
abbrev pub StopsIn : {S : Type 0} → Rule → (List OwnedSegment → S → Type 0) → S → List OwnedSegment
    → ParamFault → Type 0
StopsIn rule Good old segments f =
    (seen : List OwnedSegment) → Good seen old → IsFirstRefused rule seen segments f

-- a state that is right for what was seen is right after what a segment means too
abbrev pub ContinuesOver : {S : Type 0} → (List OwnedSegment → S → Type 0) → S → S → OwnedSegment → Type 0
ContinuesOver Good old new s = (mine : List OwnedSegment) × OpensTo s mine × Continues Good old new mine

-- the first refusal in what a segment means, whose data start at this place, after what was seen
abbrev pub StopsAt :
    {S : Type 0} → Rule → (List OwnedSegment → S → Type 0) → S → OwnedSegment → ℕ → ParamFault → Type 0
StopsAt rule Good old s place f = (seen : List OwnedSegment) → Good seen old → IsRefusedAt rule seen s place f

-- the segment ends within the longest capture
abbrev pub EndsWithin : Placed → Type 0
EndsWithin view = view.start + length (segment_bytes view.segment) ≤ MAX_CAPTURE

-- a placed segment is read next, or stops the reader
abbrev pub ReadsNext : {S : Type 0} → (List OwnedSegment → S → Type 0) → S → S → Placed → Type 0
ReadsNext Good old new view = ContinuesOver Good old new (segment_of view.segment)

abbrev pub StopsNext : {S : Type 0} → Rule → (List OwnedSegment → S → Type 0) → S → Placed → ParamFault
    → Type 0
StopsNext rule Good old view f = StopsAt rule Good old (segment_of view.segment) (data_place view) f

-- the state is right for all that the placed segments mean
abbrev pub ReadsViews : {S : Type 0} → (List OwnedSegment → S → Type 0) → List Placed → S → Type 0
ReadsViews Good views new =
    (segments : List OwnedSegment) × OpenTo (values_in views) segments × Good segments new

-- none of them is refused and the state is right for them, or the first refusal among them is known
abbrev pub HasRead : {S : Type 0} → Rule → (List OwnedSegment → S → Type 0) → List Placed → Option ParamFault
    → S → Type 0
HasRead rule Good views None state = ReadsViews Good views state
HasRead rule Good views (Some f) state = IsRefusedIn rule views f

-- the bytes are read so far, and so are the segments of theirs that are whole
pub record HasCome {S : Type 0} (rule : Rule) (Good : List OwnedSegment → S → Type 0) (bytes : List ℕ)
    (to : ReadTo) (refused : Option ParamFault) (state : S) : Type 0 where
  pub short : length bytes ≤ MAX_CAPTURE
  pub placed : List Placed
  pub read : IsReadTo bytes placed to
  pub segments : HasRead rule Good placed refused state

-- the front of the bytes is read so far
abbrev pub HasComeIn : {S : Type 0} → Rule → (List OwnedSegment → S → Type 0) → List ℕ → ReadTo
    → Option ParamFault → S → Type 0
HasComeIn rule Good bytes to refused state =
    (front more : List ℕ) × (bytes ≡ front ++ more) × HasCome rule Good front to refused state

-- the same for the segments of a capture
abbrev pub ReadsCapture : {S : Type 0} → (List OwnedSegment → S → Type 0) → List ℕ → S → Type 0
ReadsCapture Good capture new =
    (segments : List OwnedSegment) × AreSegmentsOf capture segments × Good segments new
