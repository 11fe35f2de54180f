-- Segments in bytes that come in pieces: which of them are whole, and what is left for the next piece. What
-- only private contracts and proofs use comes last, under a heading.
use Rattle.std.specs.Prelude.{◌≡◌, ◌≢◌, ◌⊎◌, ℕ, ◌+◌, ◌-◌, ◌<◌, ◌≤◌, ◌==◌, Bool, List, [], ◌∷◌, ◌++◌, length, map, take, drop}
use Rattle.std.specs.List.{AllByRecursion}
use Rattle.std.specs.Option.{option_map, unwrap_or}
use Rattle.fints_syntax.specs.Places.{start_of}
use Rattle.fints_syntax.specs.Faults.{KindAt, window_of}
use Rattle.fints_syntax.specs.Search.{IsSearched}
use Rattle.fints_syntax.specs.Capture.{IsBreak, ReadsPlaced, FaultsAt}
use Rattle.fints_syntax.specs.declared.capture.Placed.{Placed}
use Rattle.fints_syntax.specs.declared.fault.SyntaxFault.{SyntaxFault}
use Rattle.fints_syntax.specs.declared.fault.SyntaxKind.{SyntaxKind}
use Rattle.fints_syntax.specs.declared.fault.SyntaxKind.TheVariants.{Memory, Incomplete, CaptureTooLong}
use Rattle.fints_syntax.specs.declared.stream.Begun.{Begun}
use Rattle.fints_syntax.specs.declared.capture.TheConstants.{MAX_CAPTURE}
use Rattle.fints_syntax.specs.declared.stream.ReadTo.{ReadTo}

-- the byte `'`, which ends a segment
abbrev pub is_quote : ℕ → Bool
is_quote b = b == 39

-- nothing, or a segment that has begun and doesn't end in the bytes
abbrev pub IsBegun : List ℕ → Type 0
IsBegun [] = Unit {0}
IsBegun (b ∷ bs) = (IsBreak b → ⊥) × KindAt Incomplete 0 (b ∷ bs)

-- line breaks, and after them the segment that has begun, if one has
pub record IsRest (rest : List ℕ) : Type 0 where
  pub gap : List ℕ
  pub begun : List ℕ
  pub breaks : AllByRecursion IsBreak gap
  pub unended : IsBegun begun
  pub text : rest ≡ gap ++ begun

-- the whole segments of the bytes, each with its offset, and what is left of the bytes
pub record SplitsInto (bytes : List ℕ) (placed : List Placed) (rest : List ℕ) : Type 0 where
  pub reads : ReadsPlaced bytes placed rest
  pub left : IsRest rest

-- segments whose offsets are counted from n bytes before
abbrev pub moved_by : ℕ → List Placed → List Placed
moved_by n placed = map (λ p. record { start = n + p.start; segment = p.segment }) placed

-- the offset of item 1 of element 2 of a segment, counted as the segment's is, or 0 where there is none
abbrev pub data_place : Placed → ℕ
data_place p = unwrap_or (option_map (λ o. p.start + o) (start_of p.segment 2 1)) 0

-- how many bytes the whole segments take, with the line breaks before and between them
abbrev pub whole_len : List ℕ → List ℕ → ℕ
whole_len bytes rest = length bytes - length rest

-- this many bytes are line breaks, and after them the search has come so far
pub record IsReady (rest : List ℕ) (b : Begun) : Type 0 where
  pub within : b.gap ≤ length rest
  pub breaks : AllByRecursion IsBreak (take b.gap rest)
  pub searched : IsSearched (window_of (drop b.gap rest)) b.search

-- the whole segments of the bytes are read, and what is left is looked at
pub record IsReadTo (bytes : List ℕ) (placed : List Placed) (r : ReadTo) : Type 0 where
  pub within : r.whole ≤ length bytes
  pub reads : ReadsPlaced bytes placed (drop r.whole bytes)
  pub ready : IsReady (drop r.whole bytes) r.rest
  pub unended : IsBegun (drop r.rest.gap (drop r.whole bytes))

-- The fault of bytes where at most `limit` are read: an unfinished segment is none, since more bytes may
-- end it; and where more bytes follow, and those that are read have no fault, there are too many.
abbrev pub PieceFaultAt : ℕ → SyntaxKind → ℕ → List ℕ → Type 0
PieceFaultAt limit CaptureTooLong o bytes =
    (o ≡ limit) × (limit < length bytes) × (placed : List Placed) × (rest : List ℕ)
    × SplitsInto (take limit bytes) placed rest
PieceFaultAt limit kind o bytes = (kind ≢ Incomplete) × FaultsAt (take limit bytes) kind o

-- out of memory
abbrev pub IsMemory : SyntaxFault → Type 0
IsMemory f = f ≡ record { kind = Memory; offset = 0 }

-- out of memory, or the fault of a stream, in which these bytes begin at `at`; its offset is counted in the stream
abbrev pub IsStreamFault : ℕ → List ℕ → SyntaxFault → Type 0
IsStreamFault at bytes f =
    IsMemory f ⊎ ((o : ℕ) × (f.offset ≡ at + o) × PieceFaultAt (MAX_CAPTURE - at) f.kind o bytes)

-- ---- of private contracts and proofs only

-- out of memory, or a fault of the bytes that no further byte fixes
abbrev pub IsPieceStop : ℕ → List ℕ → SyntaxFault → Type 0
IsPieceStop at bytes f =
    IsMemory f ⊎ ((o : ℕ) × (f.offset ≡ at + o) × (f.kind ≢ Incomplete) × FaultsAt bytes f.kind o)
