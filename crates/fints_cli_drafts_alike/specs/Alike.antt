-- A message that is sent once more, as it was recorded but for what a client makes new for each message.
use Rattle.std.specs.Prelude.{codes, ◌≡◌, ◌≢◌, ◌<◌, ◌≤◌, ◌+◌, ◌⊎◌, ◌&&◌, ◌||◌, ℕ, nat_le, List, [], length, slice_get, Some, None, Bool, ◌==◌, IsTrue}
use Rattle.std.specs.List.{AllZip}
use Rattle.std.specs.Str.{bytes_eq}
use Rattle.fints_syntax_segments.specs.Spelling.{Spelled}
use Rattle.fints_syntax_segments.specs.Segment.{item_value, segment_bytes}
use Rattle.fints_syntax_segments.specs.Values.{is_named, item_at, items_in, value_at}
use Rattle.fints_syntax_segments.specs.declared.frames.TheConstants.{HNVSD_NUMBER, HNVSD_VERSION}
use Rattle.fints_syntax_segments.specs.declared.item.OwnedItem.{OwnedItem}
use Rattle.fints_syntax_segments.specs.declared.item.OwnedItem.TheVariants.{Bin}
use Rattle.fints_syntax_segments.specs.declared.item.OwnedSegment.{OwnedSegment}
use Rattle.fints_syntax.specs.Capture.{IsCapture}
use Rattle.fints_syntax.specs.Owned.{segment_of}
use Rattle.fints_rules_messages.specs.Messages.{IsSealHead}

-- ---- what a client makes new for each message

abbrev pub is_of : OwnedSegment → List ℕ → Bool
is_of s kind = bytes_eq s.head.id kind

-- an HKTAN of this process
abbrev pub has_process : OwnedSegment → List ℕ → Bool
has_process s process = is_of s (codes "HKTAN") && bytes_eq (value_at s 2 1) process

-- an HKTAN that goes on with an order submitted before: process 2 sends the TAN, process S asks for the release
abbrev pub goes_on : OwnedSegment → Bool
goes_on s = has_process s (codes "2") || has_process s (codes "S")

-- Element 6 of such an HKTAN is the bank's reference of the order, from version 5 on.
abbrev pub refers : OwnedSegment → Bool
refers s = goes_on s && nat_le 5 s.head.version

-- the segments that hold something that a client makes new
abbrev pub is_renewable : OwnedSegment → Bool
is_renewable s = is_of s (codes "HNHBK") || is_of s (codes "HNSHK") || is_of s (codes "HNSHA") || refers s

-- the item of an element that a client makes new: the size in HNHBK, the control reference in HNSHK and HNSHA, the
-- date and the time in HNSHK, the TAN in HNSHA, and the reference of an order
abbrev pub is_renewed : OwnedSegment → ℕ → ℕ → Bool
is_renewed s element item =
    (is_of s (codes "HNHBK") && element == 2 && item == 1)
    || (is_of s (codes "HNSHK") && element == 4 && item == 1)
    || (is_of s (codes "HNSHK") && element == 9 && (item == 2 || item == 3))
    || (is_of s (codes "HNSHA") && element == 2 && item == 1)
    || (is_of s (codes "HNSHA") && element == 4 && item == 2)
    || (refers s && element == 6 && item == 1)

-- ---- a message sent once more

-- two items are the same, text or binary; or they are made new, and neither is empty
abbrev pub AreAlikeItems : Bool → OwnedItem → OwnedItem → Type 0
AreAlikeItems renewed one other =
    (one ≡ other) ⊎ (IsTrue renewed × (item_value one ≢ []) × (item_value other ≢ []))

-- the items of an element are so, one by one
pub record IsElementAlike (recorded sent : OwnedSegment) (element : ℕ) : Type 0 where
  pub count : length (items_in recorded element) ≡ length (items_in sent element)
  pub each :
      (i : ℕ) → 1 ≤ i → i < 1 + length (items_in recorded element)
      → AreAlikeItems (is_renewed recorded element i) (item_at recorded element i) (item_at sent element i)

-- two segments have the same head, without a reference number, and the same values but where they are made new
pub record IsRenewal (recorded sent : OwnedSegment) : Type 0 where
  pub renewable : IsTrue (is_renewable recorded)
  pub id : IsTrue (bytes_eq recorded.head.id sent.head.id)
  pub number : recorded.head.number ≡ sent.head.number
  pub version : recorded.head.version ≡ sent.head.version
  pub no_reference : (recorded.head.reference ≡ None) × (sent.head.reference ≡ None)
  pub count : length recorded.elements ≡ length sent.elements
  pub each :
      (e : ℕ) → 2 ≤ e → e < 2 + length recorded.elements → IsElementAlike recorded sent e

-- a segment is sent byte for byte; or it is an HNVSK, since a script has one for all messages; or it differs only in
-- what is made new
abbrev pub IsSegmentAlike : List (List Spelled) → List (List Spelled) → Type 0
IsSegmentAlike recorded sent =
    (segment_bytes sent ≡ segment_bytes recorded)
    ⊎ (IsSealHead (segment_of recorded) × IsSealHead (segment_of sent))
    ⊎ IsRenewal (segment_of recorded) (segment_of sent)

-- the bytes are segments, and each is sent so
abbrev pub AreSegmentsAlike : List ℕ → List ℕ → Type 0
AreSegmentsAlike recorded sent =
    (own other : List (List (List Spelled))) × IsCapture recorded own × IsCapture sent other
    × AllZip IsSegmentAlike own other

-- an HNVSD, numbered 999, with this data and nothing more
pub record IsEnvelopeOf (held : List ℕ) (s : OwnedSegment) : Type 0 where
  pub kind : IsTrue (is_named s (codes "HNVSD") HNVSD_VERSION)
  pub place : s.head.number ≡ HNVSD_NUMBER
  pub element : length s.elements ≡ 1
  pub item : length (items_in s 2) ≡ 1
  pub held_is : slice_get (items_in s 2) 0 ≡ Some (Bin held)

-- both are an HNVSD, and the segments in it are sent so
pub record AreEnvelopesAlike (recorded sent : List (List Spelled)) : Type 0 where
  pub own : List ℕ
  pub other : List ℕ
  pub is_own : IsEnvelopeOf own (segment_of recorded)
  pub is_other : IsEnvelopeOf other (segment_of sent)
  pub alike : AreSegmentsAlike own other

abbrev pub IsOuterAlike : List (List Spelled) → List (List Spelled) → Type 0
IsOuterAlike recorded sent = IsSegmentAlike recorded sent ⊎ AreEnvelopesAlike recorded sent

-- a message is sent as it was recorded, byte for byte, but for what a client makes new, what HNVSK has after its
-- head, and the lengths in HNHBK and HNVSD that follow
abbrev pub IsSentAgain : List ℕ → List ℕ → Type 0
IsSentAgain recorded sent =
    (own other : List (List (List Spelled))) × IsCapture recorded own × IsCapture sent other
    × AllZip IsOuterAlike own other
