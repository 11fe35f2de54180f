-- Why a capture is refused: it is no list of segments; or one is refused after segments that are accepted,
-- or an HNVSD doesn't open. A rule says why a segment is refused after those before it.
use Rattle.std.specs.Prelude.{◌≡◌, ◌≢◌, ◌⊎◌, ℕ, ◌+◌, ◌≤◌, true, List, ◌∷◌, ◌++◌, length, map, Option, Some, None}
use Rattle.fints_syntax.specs.Capture.{IsPlacedCapture, IsCaptureFault}
use Rattle.fints_syntax.specs.Owned.{segment_of, segments_of}
use Rattle.fints_syntax.specs.Streams.{data_place}
use Rattle.fints_syntax.specs.declared.capture.Placed.{Placed}
use Rattle.fints_syntax.specs.declared.capture.TheConstants.{MAX_CAPTURE}
use Rattle.fints_syntax.specs.declared.fault.SyntaxFault.{SyntaxFault}
use Rattle.fints_syntax.specs.declared.fault.SyntaxKind.TheVariants as kinds
use Rattle.fints_syntax_segments.specs.declared.item.OwnedSegment.{OwnedSegment}
use Rattle.fints_params.specs.declared.fault.ParamFault.{ParamFault}
use Rattle.fints_params.specs.declared.fault.ParamFault.TheVariants.{Syntax, BadElement}
use Rattle.fints_params.specs.Sealed.{is_sealed, data_of}
use Rattle.fints_params.specs.Opened.{OpensTo, OpenTo}

abbrev pub Rule : Type 0
Rule = List OwnedSegment → OwnedSegment → Option ParamFault

-- no segment is refused after those before it
abbrev pub NoneRefused : Rule → List OwnedSegment → Type 0
NoneRefused rule segments =
    (before after : List OwnedSegment) (at : OwnedSegment) → segments ≡ before ++ at ∷ after
    → rule before at ≡ None

-- why the bytes are no segments
abbrev pub AreNoSegments : List ℕ → SyntaxFault → Type 0
AreNoSegments bytes fault = IsCaptureFault bytes fault × (fault.kind ≢ kinds.Memory)

-- the bytes are no capture
abbrev pub IsSyntaxFault : List ℕ → ParamFault → Type 0
IsSyntaxFault capture f = (fault : SyntaxFault) × AreNoSegments capture fault × (f ≡ Syntax fault)

-- why an HNVSD doesn't open: item 1 of its element 2 isn't binary, or its data are no segments, with their
-- fault's offset in the capture, in which they start at this place
abbrev pub StaysClosed : OwnedSegment → ℕ → ParamFault → Type 0
StaysClosed s place f =
    ((data_of s ≡ None) × (f ≡ BadElement s.head.number 2))
    ⊎ ((bytes : List ℕ) × (fault : SyntaxFault) × (data_of s ≡ Some bytes) × AreNoSegments bytes fault
    × (f ≡ Syntax (record { kind = fault.kind; offset = place + fault.offset })))

-- the first of these segments that is refused after those seen and those before it
pub record IsFirstRefused (rule : Rule) (seen segments : List OwnedSegment) (f : ParamFault) : Type 0 where
  pub before : List OwnedSegment
  pub at : OwnedSegment
  pub after : List OwnedSegment
  pub split : segments ≡ before ++ at ∷ after
  pub none : NoneRefused rule (seen ++ before)
  pub fault : rule (seen ++ before) at ≡ Some f

-- after those seen the first of those that a segment means is refused, or it doesn't open
abbrev pub IsRefusedAt : Rule → List OwnedSegment → OwnedSegment → ℕ → ParamFault → Type 0
IsRefusedAt rule seen s place f =
    ((mine : List OwnedSegment) × OpensTo s mine × IsFirstRefused rule seen mine f)
    ⊎ ((is_sealed s ≡ true) × StaysClosed s place f)

-- the segments at these places, by their values
abbrev pub values_in : List Placed → List OwnedSegment
values_in placed = segments_of (map (λ p. p.segment) placed)

-- of the segments at these places those before one are accepted, and it is refused
pub record IsRefusedIn (rule : Rule) (placed : List Placed) (f : ParamFault) : Type 0 where
  pub front : List Placed
  pub at : Placed
  pub back : List Placed
  pub split : placed ≡ front ++ at ∷ back
  pub seen : List OwnedSegment
  pub opened : OpenTo (values_in front) seen
  pub none : NoneRefused rule seen
  pub refused : IsRefusedAt rule seen (segment_of at.segment) (data_place at) f

-- the first refusal of a capture or a message by a rule: it is none, or a segment is refused
abbrev pub IsRefusedOf : Rule → List ℕ → ParamFault → Type 0
IsRefusedOf rule capture f =
    IsSyntaxFault capture f
    ⊎ ((length capture ≤ MAX_CAPTURE) × (placed : List Placed) × IsPlacedCapture capture placed
    × IsRefusedIn rule placed f)
