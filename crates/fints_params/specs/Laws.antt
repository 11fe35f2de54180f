-- The laws of what captures say. Each is the contract of a public function. `OneParams` and `OneCodes`, with
-- the laws beside them, say that bytes have one meaning at most; proofs above cite the lemmas of these laws by name.
use Rattle.std.specs.Prelude.{◌≡◌, ◌⊎◌, ◌++◌, ℕ, List, None}
use Rattle.std.specs.List.{flat_map}
use Rattle.fints_params.specs.declared.fault.ParamFault.{ParamFault}
use Rattle.fints_params.specs.Parameters.{Rows}
use Rattle.fints_params.specs.Pieces.{Received, unread, AreReceived, IsPieceFault}
use Rattle.fints_params.specs.Captures.{IsParamsOf, IsParamFault, IsCodesOf, IsCodeFault}

-- a capture has one set of rows at most
abbrev pub OneParams : Type 0
OneParams = (capture : List ℕ) (a b : Rows) → IsParamsOf capture a → IsParamsOf capture b → a ≡ b

-- it has one first refusal at most
abbrev pub OneParamFault : Type 0
OneParamFault =
    (capture : List ℕ) (f g : ParamFault) → IsParamFault capture f → IsParamFault capture g → f ≡ g

-- it never has rows and a refusal
abbrev pub NoParamsAtFault : Type 0
NoParamsAtFault =
    (capture : List ℕ) (rows : Rows) (f : ParamFault) → IsParamsOf capture rows → IsParamFault capture f → ⊥

-- a message has one list of codes at most
abbrev pub OneCodes : Type 0
OneCodes = (message a b : List ℕ) → IsCodesOf message a → IsCodesOf message b → a ≡ b

-- it has one first refusal at most
abbrev pub OneCodeFault : Type 0
OneCodeFault = (message : List ℕ) (f g : ParamFault) → IsCodeFault message f → IsCodeFault message g → f ≡ g

-- it never has codes and a refusal
abbrev pub NoCodesAtFault : Type 0
NoCodesAtFault =
    (message numbers : List ℕ) (f : ParamFault) → IsCodesOf message numbers → IsCodeFault message f → ⊥

-- however a capture is cut: a new reader that has taken all pieces holds the capture, and so ends as that is read
abbrev pub AnyCutting : Type 0
AnyCutting =
    (pieces : List (List ℕ)) (new : Received) → AreReceived unread pieces new
    → new ≡ record { bytes = flat_map (λ p. p) pieces; failed = None }

-- the fault of a capture so far is that of the capture, whatever bytes follow
abbrev pub PieceFaultIsParamFault : Type 0
PieceFaultIsParamFault =
    (stream more : List ℕ) (f : ParamFault) → IsPieceFault stream f → IsParamFault (stream ++ more) f

-- each list of bytes has rows as a capture, or is refused
abbrev pub ParamsOrFault : Type 0
ParamsOrFault =
    (capture : List ℕ)
    → ((rows : Rows) × IsParamsOf capture rows) ⊎ ((f : ParamFault) × IsParamFault capture f)

-- each has codes as a message, or is refused
abbrev pub CodesOrFault : Type 0
CodesOrFault =
    (message : List ℕ)
    → ((numbers : List ℕ) × IsCodesOf message numbers) ⊎ ((f : ParamFault) × IsCodeFault message f)
