-- The laws of segment texts. Each is the contract of a public function, and proofs above cite its lemma by name.
use Rattle.std.specs.Prelude.{◌≡◌, ◌≢◌, ◌⊎◌, ◌≤◌, ◌↔◌, ◌+◌, ◌++◌, ℕ, List, length, take, drop, Some}
use Rattle.std.specs.List.{count_by}
use Rattle.fints_syntax_segments.specs.Spelling.{Spelled}
use Rattle.fints_syntax_segments.specs.Segment.{segment_bytes, values_of, head_of, IsFramed, IsSegment}
use Rattle.fints_syntax.specs.Owned.{segment_of}
use Rattle.fints_syntax.specs.Faults.{BeginsWithSegment, IsFault, window_of}
use Rattle.fints_syntax.specs.Streams.{is_quote, IsRest, SplitsInto, moved_by, whole_len, IsReady, IsReadTo, PieceFaultAt}
use Rattle.fints_syntax.specs.Capture.{IsCapture, IsPlacedCapture, IsCaptureFault, FaultsAt}
use Rattle.fints_syntax_segments.specs.Written.{segment_values, written_tree, written_segment, IsWritable}
use Rattle.fints_syntax.specs.declared.capture.Placed.{Placed}
use Rattle.fints_syntax.specs.declared.stream.Begun.{Begun}
use Rattle.fints_syntax.specs.declared.stream.ReadTo.{ReadTo}
use Rattle.fints_syntax.specs.declared.fault.SyntaxKind.{SyntaxKind}
use Rattle.fints_syntax.specs.declared.fault.SyntaxFault.{SyntaxFault}
use Rattle.fints_syntax.specs.declared.fault.SyntaxKind.TheVariants.{Memory, Incomplete}
use Rattle.fints_syntax.specs.declared.capture.TheConstants.{MAX_CAPTURE}
use Rattle.fints_syntax_segments.specs.declared.item.OwnedSegment.{OwnedSegment}

-- a byte list begins with at most one segment text, and that is the text of one segment
abbrev pub OneSegmentText : Type 0
OneSegmentText =
    (es fs : List (List Spelled)) (x y : List ℕ) → IsFramed es → IsFramed fs
    → segment_bytes es ++ x ≡ segment_bytes fs ++ y → es ≡ fs

-- whatever follows the text of a segment, a segment is read at the front
abbrev pub SegmentIsRead : Type 0
SegmentIsRead =
    (es : List (List Spelled)) (rest : List ℕ) → IsSegment es
    → BeginsWithSegment (window_of (segment_bytes es ++ rest))

-- the written text of a segment is a text of that segment
abbrev pub WrittenIsSpelled : Type 0
WrittenIsSpelled = (s : OwnedSegment) → IsWritable s → IsSegment (written_tree s)

abbrev pub WrittenHasValues : Type 0
WrittenHasValues = (s : OwnedSegment) → values_of (written_tree s) ≡ segment_values s

abbrev pub WrittenHasHead : Type 0
WrittenHasHead = (s : OwnedSegment) → IsWritable s → head_of (values_of (written_tree s)) ≡ Some s.head

-- whatever follows the written text of a segment, that text is what is read at the front
abbrev pub WrittenIsRead : Type 0
WrittenIsRead =
    (s : OwnedSegment) (rest : List ℕ) → IsWritable s
    → BeginsWithSegment (window_of (written_segment s ++ rest))

abbrev pub NothingElseIsRead : Type 0
NothingElseIsRead =
    (s : OwnedSegment) (rest : List ℕ) (es : List (List Spelled)) (len : ℕ) → IsWritable s → IsSegment es
    → len ≤ length (written_segment s ++ rest) → take len (written_segment s ++ rest) ≡ segment_bytes es
    → (es ≡ written_tree s) × (len ≡ length (written_segment s))

-- the bytes begin with a text of this segment, of `len` bytes
pub record BeginsWithText (bytes : List ℕ) (s : OwnedSegment) (len : ℕ) : Type 0 where
  pub elements : List (List Spelled)
  pub segment : IsSegment elements
  pub values : s ≡ segment_of elements
  pub text : take len bytes ≡ segment_bytes elements
  pub within : len ≤ length bytes

-- bytes begin with a text of one segment at most, and that text has one length
abbrev pub OneReading : Type 0
OneReading =
    (bytes : List ℕ) (s t : OwnedSegment) (len n : ℕ) → BeginsWithText bytes s len → BeginsWithText bytes t n
    → (s ≡ t) × (len ≡ n)

-- what is written for a segment within the limits is read back as that segment and as nothing else, whatever bytes follow it
abbrev pub WrittenIsReadBack : Type 0
WrittenIsReadBack =
    (s t : OwnedSegment) (rest : List ℕ) (len : ℕ) → IsWritable s
    → BeginsWithText (written_segment s ++ rest) t len ↔ ((t ≡ s) × (len ≡ length (written_segment s)))

-- bytes that begin with no segment have one fault at most: one kind, and one offset
abbrev pub OneFault : Type 0
OneFault = (input : List ℕ) (f g : SyntaxFault) → IsFault input f → IsFault input g → f ≡ g

-- bytes with such a fault begin with no segment
abbrev pub NoSegmentAtFault : Type 0
NoSegmentAtFault =
    (input : List ℕ) (f : SyntaxFault) → IsFault input f → BeginsWithSegment (window_of input) → ⊥

-- how far bytes without a whole segment are looked at stays true where more follow and at most `limit` are read
abbrev pub BegunGoesOn : Type 0
BegunGoesOn =
    (rest more : List ℕ) (limit : ℕ) (b : Begun) → IsReady rest b → length rest ≤ limit
    → IsReady (take limit (rest ++ more)) b

-- bytes that are read so far are split there
abbrev pub ReadIsSplit : Type 0
ReadIsSplit =
    (bytes : List ℕ) (placed : List Placed) (r : ReadTo) → IsReadTo bytes placed r
    → SplitsInto bytes placed (drop r.whole bytes)

-- a stream that is cut in two: its segments are those of the first part, and then those of the first part's rest with the second part
abbrev pub CutSegments : Type 0
CutSegments =
    (first second : List ℕ) (placed more : List Placed) (rest left : List ℕ) → SplitsInto first placed rest
    → SplitsInto (rest ++ second) more left
    → SplitsInto (first ++ second) (placed ++ moved_by (whole_len first rest) more) left

-- and its fault is that of the first part's rest with the second part
abbrev pub CutFault : Type 0
CutFault =
    (first second : List ℕ) (placed : List Placed) (rest : List ℕ) (limit o : ℕ) (kind : SyntaxKind)
    → SplitsInto first placed rest → PieceFaultAt limit kind o (rest ++ second)
    → PieceFaultAt (whole_len first rest + limit) kind (whole_len first rest + o) (first ++ second)

-- a fault of a stream stays what it is, and where it is, whatever bytes follow
abbrev pub FaultLasts : Type 0
FaultLasts =
    (bytes more : List ℕ) (limit o : ℕ) (kind : SyntaxKind) → PieceFaultAt limit kind o bytes
    → PieceFaultAt limit kind o (bytes ++ more)

-- what follows bytes without a whole segment ends no more segments than it has `'`
abbrev pub FewSegments : Type 0
FewSegments =
    (rest more : List ℕ) (placed : List Placed) (left : List ℕ) → IsRest rest
    → SplitsInto (rest ++ more) placed left → length placed ≤ count_by is_quote more

-- bytes have one list of whole segments, and one rest
abbrev pub OneSplit : Type 0
OneSplit =
    (bytes : List ℕ) (p q : List Placed) (x y : List ℕ) → SplitsInto bytes p x → SplitsInto bytes q y
    → (p ≡ q) × (x ≡ y)

-- and no fault then, unless more bytes may fix it
abbrev pub NoSplitAtFault : Type 0
NoSplitAtFault =
    (bytes : List ℕ) (p : List Placed) (x : List ℕ) (kind : SyntaxKind) (o : ℕ) → SplitsInto bytes p x
    → kind ≢ Incomplete → FaultsAt bytes kind o → ⊥

-- the fault of a stream from its start on is that of a capture, and none of the others that a capture may have
abbrev pub PieceFaultIsCaptureFault : Type 0
PieceFaultIsCaptureFault =
    (bytes : List ℕ) (f : SyntaxFault) → PieceFaultAt MAX_CAPTURE f.kind f.offset bytes
    → IsCaptureFault bytes f × (f.kind ≢ Memory) × (f.kind ≢ Incomplete)

-- a capture is one list of segments
abbrev pub OneCapture : Type 0
OneCapture =
    (input : List ℕ) (s t : List (List (List Spelled))) → IsCapture input s → IsCapture input t → s ≡ t

-- bytes with a fault other than running out of memory are no capture where they are within the limit
abbrev pub NoCaptureAtFault : Type 0
NoCaptureAtFault =
    (input : List ℕ) (f : SyntaxFault) (s : List (List (List Spelled))) → IsCaptureFault input f
    → f.kind ≢ Memory → length input ≤ MAX_CAPTURE → IsCapture input s → ⊥

-- the segments of a capture have one list of places
abbrev pub OnePlacedCapture : Type 0
OnePlacedCapture =
    (input : List ℕ) (p q : List Placed) → IsPlacedCapture input p → IsPlacedCapture input q → p ≡ q

-- a capture has one fault at most, apart from running out of memory: one kind, and one offset
abbrev pub OneCaptureFault : Type 0
OneCaptureFault =
    (input : List ℕ) (f g : SyntaxFault) → IsCaptureFault input f → IsCaptureFault input g → f.kind ≢ Memory
    → g.kind ≢ Memory → f ≡ g

-- each list of bytes begins with a segment, or has the fault of one that doesn't
abbrev pub SegmentOrFault : Type 0
SegmentOrFault =
    (input : List ℕ) → BeginsWithSegment (window_of input) ⊎ ((f : SyntaxFault) × IsFault input f)

-- each list of bytes is a capture within the limit, or has a fault other than running out of memory
abbrev pub CaptureOrFault : Type 0
CaptureOrFault = (input : List ℕ)
    → ((length input ≤ MAX_CAPTURE) × (placed : List Placed) × IsPlacedCapture input placed)
    ⊎ ((f : SyntaxFault) × IsCaptureFault input f × (f.kind ≢ Memory))
