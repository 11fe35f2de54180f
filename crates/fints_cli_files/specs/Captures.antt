-- What a capture that is read while it comes holds. What only private contracts and proofs use comes last, under a heading.
use Rattle.std.specs.Prelude.{◌≡◌, ℕ, Bool, true, false, List, [], ◌++◌, Option, None, Some}
use Rattle.fints_params.specs.Pieces.{Received, IsPieceFault}
use Rattle.fints_params.specs.declared.fault.ParamFault.{ParamFault}
use Rattle.fints_cli_files.specs.Streams.{IsFile}

-- what reads a capture as its file comes: a reader, and the fault that it met; whether it keeps the bytes, and what it kept
pub record FedReader : Type 0 where
  pub reader : Received
  pub fault : Option ParamFault
  pub keeps : Bool
  pub kept : List ℕ

-- the reader has taken the bytes, or met a fault in a front of them
abbrev pub HasTaken : List ℕ → Received → Option ParamFault → Type 0
HasTaken bytes reader None = reader ≡ record { bytes = bytes; failed = None }
HasTaken bytes reader (Some f) = (front more : List ℕ) × (bytes ≡ front ++ more) × IsPieceFault front f

-- the bytes are kept, or none
abbrev pub AreKept : Bool → List ℕ → List ℕ → Type 0
AreKept true bytes kept = kept ≡ bytes
AreKept false bytes kept = kept ≡ []

abbrev pub HoldsCapture : List ℕ → FedReader → Type 0
HoldsCapture bytes fed = HasTaken bytes fed.reader fed.fault × AreKept fed.keeps bytes fed.kept

-- ---- of private contracts and proofs only

-- what is kept when a piece more has come
abbrev pub kept_after : Bool → List ℕ → List ℕ → List ℕ
kept_after true kept piece = kept ++ piece
kept_after false kept piece = kept

-- what was answered where a file was read, by what is answered of its bytes
abbrev pub IsReadFrom : {T : Type 0} → (List ℕ → T → Type 0) → Option (List ℕ) → T → Type 0
IsReadFrom Answers held told = (bytes : List ℕ) × IsFile held bytes × Answers bytes told
