-- What a look at the segments between HNHBK and HNHBS finds. Only private contracts use this file.
use Rattle.std.specs.Prelude.{◌≡◌, ◌⊎◌, ℕ, ◌+◌, ◌<◌, ◌≤◌, List, [], ◌∷◌, ◌++◌, length, drop, Option, Some, None, Result, Ok, Err}
use Rattle.std.specs.List.{AllByRecursion}
use Rattle.fints_syntax_segments.specs.Spelling.{Spelled}
use Rattle.fints_syntax_segments.specs.Segment.{segment_bytes, IsSegment}
use Rattle.fints_syntax_segments.specs.declared.item.OwnedSegment.{OwnedSegment}
use Rattle.fints_syntax_segments.specs.Number.{number_of}
use Rattle.fints_syntax.specs.Owned.{segment_of, segments_of}
use Rattle.fints_rules_messages.specs.Segments.{texts_of}
use Rattle.fints_rules_messages.specs.Parts.{part_of}
use Rattle.fints_rules_messages.specs.Messages.{IsNumbered, IsInner, IsEnvelope, IsSealHead, Seals, IsLast, Stops}
use Rattle.fints_rules_messages.specs.declared.front.Inner.{Inner}
use Rattle.fints_rules_messages.specs.declared.front.Seal.{Seal}
use Rattle.fints_rules_messages.specs.declared.slip.Slip.{Slip}
use Rattle.fints_rules_messages.specs.declared.tail.Tail.{Tail}
use Rattle.fints_rules_messages.specs.declared.tail.Tail.TheVariants.{Whole, Stop}
use Rattle.fints_rules_messages.specs.declared.part.MessagePart.{MessagePart}
use Rattle.fints_rules_messages.specs.declared.part.MessagePart.TheVariants.{Opener, Body, Ender, Other}

-- the inner segments that were read, in order
abbrev pub inner_of : Inner → List OwnedSegment
inner_of i = segments_of i.openers.items ++ (segments_of i.body.items ++ segments_of i.ends.items)

-- inner segments as they are between HNHBK and HNHBS: plain or sealed
abbrev pub middle_by : Option Seal → List OwnedSegment → List OwnedSegment
middle_by None inner = inner
middle_by (Some seal) inner = segment_of seal.head ∷ segment_of seal.envelope ∷ []

-- the inner segments are in the data of the HNVSD that seals them, if one does
abbrev pub AreSealedBy : Option Seal → List OwnedSegment → Type 0
AreSealedBy None inner = Unit {0}
AreSealedBy (Some seal) inner = IsEnvelope inner (segment_of seal.envelope)

-- some HNSHK, some of the body, and at most as many HNSHA; the body is over where there are HNSHA
pub record IsHalf (segments openers body ends : List OwnedSegment) : Type 0 where
  pub openers_are : AllByRecursion (λ s. part_of s ≡ Opener) openers
  pub body_is : AllByRecursion (λ s. part_of s ≡ Body) body
  pub ends_are : AllByRecursion (λ s. part_of s ≡ Ender) ends
  pub at_most : length ends ≤ length openers
  pub together : segments ≡ openers ++ (body ++ ends)

-- a segment of this part can follow this many HNSHK, segments of the body and HNSHA
abbrev pub CanFollow : MessagePart → ℕ → ℕ → ℕ → Type 0
CanFollow Opener openers body ends = (body ≡ 0) × (ends ≡ 0)
CanFollow Body openers body ends = ends ≡ 0
CanFollow Ender openers body ends = ends < openers
CanFollow Other openers body ends = ⊥

-- the bytes begin with segments that can come between HNHBK and HNHBS, and the next, if there is one, can't
pub record IsFront (bytes : List ℕ) (at : ℕ) (openers body ends : List (List (List Spelled))) : Type 0 where
  pub trees : List (List (List Spelled))
  pub each : AllByRecursion IsSegment trees
  pub text : bytes ≡ texts_of trees ++ drop at bytes
  pub at_is : at ≡ length (texts_of trees)
  pub half : IsHalf (segments_of trees) (segments_of openers) (segments_of body) (segments_of ends)
  pub numbered : IsNumbered 2 (segments_of trees)

-- the bytes begin with the text of this segment, of `len` bytes, and of no other
pub record IsNextSegment (bytes : List ℕ) (t : List (List Spelled)) (len : ℕ) : Type 0 where
  pub segment : IsSegment t
  pub text : bytes ≡ segment_bytes t ++ drop len bytes
  pub len_is : len ≡ length (segment_bytes t)
  pub some : 0 < len
  pub within : len ≤ length bytes
  pub only : (u : List (List Spelled)) (more : List ℕ) → IsSegment u → bytes ≡ segment_bytes u ++ more → t ≡ u

abbrev pub HasNoNext : List ℕ → Type 0
HasNoNext bytes =
    (t : List (List Spelled)) (more : List ℕ) → IsSegment t → bytes ≡ segment_bytes t ++ more → ⊥

-- the segment can come next
abbrev pub CanStand : OwnedSegment → ℕ → ℕ → ℕ → Type 0
CanStand s openers body ends =
    (s.head.number ≡ 2 + (openers + (body + ends))) × CanFollow (part_of s) openers body ends

-- no segment that can come there follows
abbrev pub NoneStands : List ℕ → ℕ → ℕ → ℕ → Type 0
NoneStands bytes openers body ends =
    (t : List (List Spelled)) (more : List ℕ) → IsSegment t → bytes ≡ segment_bytes t ++ more
    → CanStand (segment_of t) openers body ends → ⊥

-- the same after these inner segments
abbrev pub CanStandBehind : Inner → OwnedSegment → Type 0
CanStandBehind inner s =
    CanStand s (length inner.openers.items) (length inner.body.items) (length inner.ends.items)

abbrev pub NoneStandsBehind : Inner → List ℕ → Type 0
NoneStandsBehind inner bytes =
    NoneStands bytes (length inner.openers.items) (length inner.body.items) (length inner.ends.items)

-- what follows HNHBK: the inner segments, plain or sealed, and HNHBS
pub record IsTail (number : ℕ) (segments inner body ends : List OwnedSegment) : Type 0 where
  pub middle : List OwnedSegment
  pub last : OwnedSegment
  pub is_inner : IsInner inner body ends
  pub stands : (middle ≡ inner) ⊎ Seals inner middle
  pub is_last : IsLast number last
  pub numbered : IsNumbered 2 (inner ++ last ∷ [])
  pub together : segments ≡ middle ++ last ∷ []

-- a form: which segments are one, with these inner segments, this body and these HNSHA
abbrev pub Form : Type 1
Form = List OwnedSegment → List OwnedSegment → List OwnedSegment → List OwnedSegment → Type 0

-- more segments make it a list of the form
abbrev pub BeginsBy : Form → List OwnedSegment → Type 0
BeginsBy form segments = (more inner body ends : List OwnedSegment) × form (segments ++ more) inner body ends

abbrev pub IsWholeBy : Form → List OwnedSegment → Type 0
IsWholeBy form segments = (inner body ends : List OwnedSegment) × form segments inner body ends

-- the bytes are the texts of segments of the form, which are these inner ones and the last, but for those before
pub record IsReadBy (form : Form) (before : List OwnedSegment) (bytes : List ℕ) (i : Inner)
    (last : List (List Spelled)) : Type 0 where
  pub trees : List (List (List Spelled))
  pub each : AllByRecursion IsSegment trees
  pub text : bytes ≡ texts_of trees
  pub is : form (segments_of trees) (inner_of i) (segments_of i.body.items) (segments_of i.ends.items)
  pub together : before ++ segments_of trees ≡ middle_by i.seal (inner_of i) ++ segment_of last ∷ []
  pub sealed : AreSealedBy i.seal (inner_of i)

-- what follows HNVSK in the sealed form
pub record IsSealedRest (number : ℕ) (segments inner body ends : List OwnedSegment) : Type 0 where
  pub envelope : OwnedSegment
  pub last : OwnedSegment
  pub is_envelope : IsEnvelope inner envelope
  pub is_inner : IsInner inner body ends
  pub is_last : IsLast number last
  pub numbered : IsNumbered 2 (inner ++ last ∷ [])
  pub together : segments ≡ envelope ∷ last ∷ []

-- the number is one that a text can spell
pub record IsNumber (number : ℕ) : Type 0 where
  pub value : List ℕ
  pub is : number_of value ≡ Some number

abbrev pub TailIs : Form → List OwnedSegment → List ℕ → Tail → Type 0
TailIs form before bytes (Whole i last) = IsReadBy form before bytes i last
TailIs form before bytes (Stop at slip) = Stops (BeginsBy form) (IsWholeBy form) bytes at

-- HNHBS is there, and the HNSHA are all there
pub record IsEndOf (number : ℕ) (s : OwnedSegment) (openers body ends : ℕ) : Type 0 where
  pub last : IsLast number s
  pub place : s.head.number ≡ 2 + (openers + (body + ends))
  pub all : ends ≡ openers

-- the same after these inner segments
abbrev pub IsEndBehind : ℕ → OwnedSegment → Inner → Type 0
IsEndBehind number s inner =
    IsEndOf number s (length inner.openers.items) (length inner.body.items) (length inner.ends.items)

-- how bytes close where this segment, of `len` bytes, is at a place in them after the inner segments: they
-- stop at it where it isn't HNHBS, and after it where more bytes follow
abbrev pub ClosesAs : ℕ → List (List Spelled) → Inner → ℕ → ℕ → ℕ → Tail → Type 0
ClosesAs number t inner at len size (Whole i last) =
    IsEndBehind number (segment_of t) inner × (size ≤ at + len) × (i ≡ inner) × (last ≡ t)
ClosesAs number t inner at len size (Stop stop slip) =
    ((stop ≡ at) × (IsEndBehind number (segment_of t) inner → ⊥))
    ⊎ ((stop ≡ at + len) × IsEndBehind number (segment_of t) inner × (at + len < size))

-- the bytes begin with this HNVSK, of `len` bytes
pub record HasSealHead (bytes : List ℕ) (len : ℕ) (t : List (List Spelled)) : Type 0 where
  pub is_next : IsNextSegment bytes t len
  pub is_seal_head : IsSealHead (segment_of t)

-- the envelope holds these inner segments of a message
pub record IsOpened (s : OwnedSegment) (i : Inner) : Type 0 where
  pub is_envelope : IsEnvelope (inner_of i) s
  pub is_inner : IsInner (inner_of i) (segments_of i.body.items) (segments_of i.ends.items)
  pub numbered : IsNumbered 2 (inner_of i)
  pub as_many : length i.ends.items ≡ length i.openers.items

abbrev pub EnvelopeIs : Result Inner Slip → OwnedSegment → Type 0
EnvelopeIs (Err slip) s =
    (inner body ends : List OwnedSegment) → IsEnvelope inner s → IsInner inner body ends → IsNumbered 2 inner
    → ⊥
EnvelopeIs (Ok i) s = IsOpened s i

-- a stop within the bytes
abbrev pub StopsWithin : Tail → ℕ → Type 0
StopsWithin (Whole i last) n = Unit {0}
StopsWithin (Stop at slip) n = at ≤ n
