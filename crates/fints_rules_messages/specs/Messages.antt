-- Which bytes are a message, and where bytes cease to be one.
use Rattle.std.specs.Prelude.{codes, ◌≡◌, ◌⊎◌, ℕ, ◌+◌, List, [], ◌∷◌, ◌++◌, length, Option, Some, IsTrue}
use Rattle.std.specs.List.{AllByRecursion}
use Rattle.fints_syntax_segments.specs.Spelling.{Spelled}
use Rattle.fints_syntax_segments.specs.Segment.{segment_bytes, IsSegment}
use Rattle.fints_syntax_segments.specs.declared.item.OwnedItem.TheVariants.{Bin}
use Rattle.fints_syntax_segments.specs.declared.frames.TheConstants.{HNHBK_NUMBER, HNHBK_VERSION, HNHBS_VERSION, HNVSD_NUMBER, HNVSD_VERSION, HNVSK_NUMBER, HNVSK_VERSION}
use Rattle.fints_syntax_segments.specs.declared.item.OwnedSegment.{OwnedSegment}
use Rattle.fints_syntax_segments.specs.Number.{number_of}
use Rattle.fints_syntax.specs.Owned.{segments_of}
use Rattle.fints_rules_messages.specs.Segments.{texts_of, IsText}
use Rattle.fints_syntax_segments.specs.Values.{item_at, value_at}
use Rattle.fints_syntax_segments.specs.Number.{number_in}
use Rattle.fints_syntax_segments.specs.Values.{is_named}
use Rattle.fints_rules_messages.specs.Parts.{part_of}
use Rattle.fints_rules_messages.specs.declared.part.MessagePart.TheVariants.{Opener, Body, Ender}

-- What a message holds: its first segment, those in the middle, and its last. The inner segments are those in the middle, or
-- are in the data of the HNVSD there; they hold the body, and `ends`, the HNSHA, one for each signature.
pub record MessageView : Type 0 where
  pub size : ℕ
  pub protocol : Option ℕ
  pub number : ℕ
  pub first : OwnedSegment
  pub middle : List OwnedSegment
  pub inner : List OwnedSegment
  pub body : List OwnedSegment
  pub ends : List OwnedSegment
  pub last : OwnedSegment

-- the segments are numbered on from n
abbrev pub IsNumbered : ℕ → List OwnedSegment → Type 0
IsNumbered n [] = Unit {0}
IsNumbered n (s ∷ ss) = (s.head.number ≡ n) × IsNumbered (n + 1) ss

-- some HNSHK, the body, and as many HNSHA
pub record IsInner (segments body ends : List OwnedSegment) : Type 0 where
  pub openers : List OwnedSegment
  pub openers_are : AllByRecursion (λ s. part_of s ≡ Opener) openers
  pub body_is : AllByRecursion (λ s. part_of s ≡ Body) body
  pub ends_are : AllByRecursion (λ s. part_of s ≡ Ender) ends
  pub as_many : length openers ≡ length ends
  pub together : segments ≡ openers ++ (body ++ ends)

-- HNHBK, with the length of the whole message in 12 digits, and the number of the message
pub record IsFirst (size number : ℕ) (s : OwnedSegment) : Type 0 where
  pub kind : IsTrue (is_named s (codes "HNHBK") HNHBK_VERSION)
  pub place : s.head.number ≡ HNHBK_NUMBER
  pub size_is : number_in 12 12 (value_at s 2 1) ≡ Some size
  pub number_is : number_of (value_at s 5 1) ≡ Some number

-- HNHBS, with the number of the message
pub record IsLast (number : ℕ) (s : OwnedSegment) : Type 0 where
  pub kind : IsTrue (is_named s (codes "HNHBS") HNHBS_VERSION)
  pub number_is : number_of (value_at s 2 1) ≡ Some number

-- HNVSK, numbered 998
pub record IsSealHead (s : OwnedSegment) : Type 0 where
  pub kind : IsTrue (is_named s (codes "HNVSK") HNVSK_VERSION)
  pub place : s.head.number ≡ HNVSK_NUMBER

-- HNVSD, numbered 999, with the inner segments as the data of its item
pub record IsEnvelope (inner : List OwnedSegment) (s : OwnedSegment) : Type 0 where
  pub kind : IsTrue (is_named s (codes "HNVSD") HNVSD_VERSION)
  pub place : s.head.number ≡ HNVSD_NUMBER
  pub bytes : List ℕ
  pub item : item_at s 2 1 ≡ Bin bytes
  pub holds : IsText bytes inner

-- the inner segments as they are in the sealed form: HNVSK, and HNVSD with them in it
pub record Seals (inner middle : List OwnedSegment) : Type 0 where
  pub seal_head : OwnedSegment
  pub envelope : OwnedSegment
  pub is_seal_head : IsSealHead seal_head
  pub is_envelope : IsEnvelope inner envelope
  pub together : middle ≡ seal_head ∷ envelope ∷ []

-- The segments are a message: HNHBK, the inner segments, plain or sealed, and HNHBS. In both forms HNHBS has the number after
-- the last inner segment.
pub record IsForm (segments : List OwnedSegment) (m : MessageView) : Type 0 where
  pub is_first : IsFirst m.size m.number m.first
  pub protocol : number_of (value_at m.first 3 1) ≡ m.protocol
  pub is_inner : IsInner m.inner m.body m.ends
  pub stands : (m.middle ≡ m.inner) ⊎ Seals m.inner m.middle
  pub is_last : IsLast m.number m.last
  pub numbered : IsNumbered 2 (m.inner ++ m.last ∷ [])
  pub together : segments ≡ m.first ∷ (m.middle ++ m.last ∷ [])

-- the bytes are a message
pub record IsMessage (bytes : List ℕ) (m : MessageView) : Type 0 where
  pub segments : List OwnedSegment
  pub text : IsText bytes segments
  pub form : IsForm segments m
  pub size : m.size ≡ length bytes

-- the segments are a message of this size: the size in HNHBK, whatever the length of their texts
abbrev pub AreMessage : ℕ → List OwnedSegment → Type 0
AreMessage size segments = (m : MessageView) × IsForm segments m × (m.size ≡ size)

-- There are no segments yet, or more of them make it a message of this size. The segments to come are values, so that a number may pass 999.
abbrev pub Begins : ℕ → List OwnedSegment → Type 0
Begins size segments = (segments ≡ []) ⊎ ((more : List OwnedSegment) × AreMessage size (segments ++ more))

-- The bytes begin with the texts of segments that begin a whole, and the offset is their end.
-- No segment's text is there, or that segment can't follow; and where the bytes end there, the whole isn't reached.
pub record Stops (BeginsOne IsOne : List OwnedSegment → Type 0) (bytes : List ℕ) (offset : ℕ) : Type 0 where
  pub front : List (List (List Spelled))
  pub rest : List ℕ
  pub each : AllByRecursion IsSegment front
  pub text : bytes ≡ texts_of front ++ rest
  pub offset_is : offset ≡ length (texts_of front)
  pub begins : BeginsOne (segments_of front)
  pub no_next :
      (t : List (List Spelled)) (more : List ℕ) → IsSegment t → rest ≡ segment_bytes t ++ more
      → BeginsOne (segments_of (front ++ t ∷ [])) → ⊥
  pub unfinished : rest ≡ [] → IsOne (segments_of front) → ⊥

-- The bytes cease to be a message at the offset. By the laws they are none then, and cease nowhere else.
abbrev pub CeasesAt : List ℕ → ℕ → Type 0
CeasesAt bytes offset = Stops (Begins (length bytes)) (AreMessage (length bytes)) bytes offset
