-- What is kept of a stream that comes in pieces: what a piece adds, and why one is refused.
use Rattle.std.specs.Prelude.{◌≡◌, ◌⊎◌, ◌+◌, ◌-◌, ◌≤◌, ℕ, List, [], ◌++◌, length, drop, Option, Some, None}
use Rattle.fints_syntax.specs.Streams.{IsMemory, IsReady, IsReadTo, PieceFaultAt}
use Rattle.fints_syntax.specs.declared.capture.Placed.{Placed}
use Rattle.fints_syntax.specs.declared.fault.SyntaxFault.{SyntaxFault}
use Rattle.fints_syntax.specs.declared.fault.SyntaxKind.TheVariants.{Failed}
use Rattle.fints_syntax.specs.declared.capture.TheConstants.{MAX_CAPTURE}
use Rattle.fints_syntax.specs.declared.stream.ReadTo.{ReadTo}

-- Bytes of a stream, the offset of the first of them, how far they are read, and once the stream has met a fault the fault's offset.
pub record Buffered : Type 0 where
  pub bytes : List ℕ
  pub at : ℕ
  pub to : ReadTo
  pub failed : Option ℕ

-- nothing is read
pub record IsUnread (to : ReadTo) : Type 0 where
  pub whole : to.whole ≡ 0
  pub ready : (rest : List ℕ) → IsReady rest to.rest

-- no byte came
pub record IsEmptyBuffer (b : Buffered) : Type 0 where
  pub bytes : b.bytes ≡ []
  pub at : b.at ≡ 0
  pub failed : b.failed ≡ None
  pub unread : IsUnread b.to

-- where the bytes begin that no whole segment takes, and which they are once more came
abbrev pub rest_at : Buffered → ℕ
rest_at b = b.at + b.to.whole

abbrev pub rest_with : Buffered → List ℕ → List ℕ
rest_with b piece = drop b.to.whole (b.bytes ++ piece)

-- where a segment begins after the whole ones and their line breaks, among the bytes, if one does
abbrev pub read_end : ReadTo → ℕ
read_end to = to.whole + to.rest.gap

-- the piece is kept, and these segments are whole with it; their offsets are counted from where the rest began
pub record IsFed (old : Buffered) (piece : List ℕ) (placed : List Placed) (new : Buffered) : Type 0 where
  pub sound : old.failed ≡ None
  pub within : old.at + length (old.bytes ++ piece) ≤ MAX_CAPTURE
  pub read : ReadTo
  pub is_read : IsReadTo (rest_with old piece) placed read
  pub new_is : new
      ≡ record {
        bytes = old.bytes ++ piece;
        at = old.at;
        to = record { whole = old.to.whole + read.whole; rest = read.rest };
        failed = None;
      }

-- after a fault only its offset is kept
pub record IsHalted (old : Buffered) (offset : ℕ) (new : Buffered) : Type 0 where
  pub bytes : new.bytes ≡ []
  pub at : new.at ≡ old.at
  pub failed : new.failed ≡ Some offset
  pub unread : IsUnread new.to

-- what is answered once a fault was met at this offset
abbrev pub failed_at : ℕ → SyntaxFault
failed_at offset = record { kind = Failed; offset = offset }

-- a piece is refused when memory runs out, and all is as before, or for the stream's fault
abbrev pub IsFeedFault : Buffered → List ℕ → SyntaxFault → Buffered → Type 0
IsFeedFault old piece f new =
    (IsMemory f × (new ≡ old))
    ⊎ ((o : ℕ) × (f.offset ≡ rest_at old + o)
    × PieceFaultAt (MAX_CAPTURE - rest_at old) f.kind o (rest_with old piece) × IsHalted old f.offset new)

-- why a piece is refused, and what is kept then
abbrev pub IsUnfed : Option ℕ → Buffered → List ℕ → SyntaxFault → Buffered → Type 0
IsUnfed (Some offset) old piece f new = (f ≡ failed_at offset) × (new ≡ old)
IsUnfed None old piece f new = IsFeedFault old piece f new

-- the bytes that whole segments take are given up
abbrev pub without_whole : Buffered → Buffered
without_whole b =
    record {
      bytes = drop b.to.whole b.bytes;
      at = rest_at b;
      to = record { whole = 0; rest = b.to.rest };
      failed = b.failed;
    }
