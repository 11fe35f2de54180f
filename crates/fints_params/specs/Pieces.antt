-- A reader of parameters: what it keeps of a capture that comes in pieces, and why a piece or the end is
-- refused. What only private contracts and proofs use comes last, under a heading.
use Rattle.std.specs.Prelude.{◌≡◌, ◌⊎◌, ◌≤◌, ℕ, List, [], ◌∷◌, ◌++◌, length, Option, Some, None}
use Rattle.fints_syntax.specs.Streams.{SplitsInto, PieceFaultAt}
use Rattle.fints_syntax.specs.declared.capture.Placed.{Placed}
use Rattle.fints_syntax.specs.declared.fault.SyntaxFault.{SyntaxFault}
use Rattle.fints_syntax.specs.declared.fault.SyntaxKind.TheVariants.{Failed}
use Rattle.fints_params.specs.declared.fault.ParamFault.{ParamFault}
use Rattle.fints_params.specs.declared.fault.ParamFault.TheVariants.{Memory, Syntax}
use Rattle.fints_params.specs.Faults.{IsMemoryOr}
use Rattle.fints_syntax.specs.declared.capture.TheConstants.{MAX_CAPTURE}

-- What a reader keeps: the stream so far, and once it has met a fault only the fault's offset.
pub record Received : Type 0 where
  pub bytes : List ℕ
  pub failed : Option ℕ

-- nothing was fed
abbrev pub unread : Received
unread = record { bytes = []; failed = None }

-- the piece is taken: the stream with it is whole segments and a rest
pub record IsReceived (old : Received) (piece : List ℕ) (new : Received) : Type 0 where
  pub sound : old.failed ≡ None
  pub placed : List Placed
  pub rest : List ℕ
  pub split : SplitsInto (old.bytes ++ piece) placed rest
  pub short : length (old.bytes ++ piece) ≤ MAX_CAPTURE
  pub kept : new ≡ record { bytes = old.bytes ++ piece; failed = None }

-- the fault of a stream so far, which no further byte fixes
abbrev pub IsPieceFault : List ℕ → ParamFault → Type 0
IsPieceFault stream f =
    (fault : SyntaxFault) × PieceFaultAt MAX_CAPTURE fault.kind fault.offset stream × (f ≡ Syntax fault)

-- what is answered after a fault at this offset
abbrev pub answer_after : ℕ → ParamFault
answer_after offset = Syntax (record { kind = Failed; offset = offset })

-- a sound reader refuses a piece if memory runs out, and is as before, or for the stream's fault, and keeps only its offset
abbrev pub RefusesPiece : Received → List ℕ → ParamFault → Received → Type 0
RefusesPiece old piece f new =
    ((f ≡ Memory) × (new ≡ old))
    ⊎ ((fault : SyntaxFault) × PieceFaultAt MAX_CAPTURE fault.kind fault.offset (old.bytes ++ piece)
    × (f ≡ Syntax fault) × (new ≡ record { bytes = []; failed = Some fault.offset }))

-- why a piece is refused, and what the reader keeps then
abbrev pub IsNotReceived : Option ℕ → Received → List ℕ → ParamFault → Received → Type 0
IsNotReceived (Some offset) old piece f new = (f ≡ answer_after offset) × (new ≡ old)
IsNotReceived None old piece f new = RefusesPiece old piece f new

-- why nothing is returned where the stream ends here, by what refuses a capture
abbrev pub TellsNothing : (List ℕ → ParamFault → Type 0) → Option ℕ → Received → ParamFault → Type 0
TellsNothing Refuses (Some offset) received f = f ≡ answer_after offset
TellsNothing Refuses None received f = IsMemoryOr (Refuses received.bytes) f

-- ---- of private contracts and proofs only

-- a reader takes these pieces, one after the other
abbrev pub AreReceived : Received → List (List ℕ) → Received → Type 0
AreReceived old [] new = new ≡ old
AreReceived old (p ∷ ps) new = (next : Received) × IsReceived old p next × AreReceived next ps new
