-- A capture that is read while it comes.
use Rattle.std.proofs.Common.{◌≡◌, ◌≢◌, ℕ, Bool, true, false, List, [], ◌++◌, ap, ◌∙◌, sym, subst, inl, inr, append_assoc, Option, Some, None, Result, Ok, Err}
use Rattle.std.specs.Option.{is_some}
use Rattle.std.specs.Prelude.{IfOk, IfErr}
use Rattle.std.proofs.lemmas.List.{append-nil}
use Rattle.fints_params.specs.Captures.{IsParamsOf, IsParamFault, IsCodesOf, IsEitherFault, IsReadOf, IsBothReadOf}
use Rattle.fints_params.specs.Parameters.{Rows}
use Rattle.fints_params.specs.Pieces.{Received, IsReceived, IsNotReceived, TellsNothing, IsPieceFault}
use Rattle.fints_params.specs.declared.both.ParamsAndCodes.{ParamsAndCodes}
use Rattle.fints_params.specs.declared.fault.ParamFault.{ParamFault}
use Rattle.fints_params.specs.declared.fault.ParamFault.TheVariants.{Memory}
use Rattle.fints_params.proofs.Receiving.{param_fault_of}
use Rattle.fints_cli_files.specs.Captures.{AreKept, FedReader, HoldsCapture, HasTaken, kept_after}

-- ---- a piece more

stopped_at : (old new : Received) (failed : Option ℕ) (piece : List ℕ) (f : ParamFault) → failed ≡ None
    → f ≢ Memory → IsNotReceived failed old piece f new → IsPieceFault (old.bytes ++ piece) f
stopped_at old new (Some o) piece f e n h = absurd cc
stopped_at old new None piece f e n (inl (m, same)) = absurd (n m)
stopped_at old new None piece f e n (inr (fault, at, is, now)) = (fault, at, is)

pub fed_fault : (fault : Option ParamFault) (old new : Received) (piece : List ℕ) (f : ParamFault)
    → is_some fault ≡ false → f ≢ Memory → IsNotReceived old.failed old piece f new → (bytes : List ℕ)
    → HasTaken bytes old fault → HasTaken (bytes ++ piece) new (Some f)
fed_fault (Some g) old new piece f none n h bytes e = absurd cc
fed_fault None old new piece f none n h bytes e =
    let met = stopped_at old new old.failed piece f (ap (λ (r : Received). r.failed) e) n h in
    (bytes ++ piece, [], sym (append-nil (bytes ++ piece)), subst (λ (xs : List ℕ). IsPieceFault (xs ++ piece) f) (ap (λ (r : Received). r.bytes) e) met)

-- a piece that was received
pub fed_more : (fault : Option ParamFault) (old new : Received) (piece : List ℕ) → is_some fault ≡ false
    → IsReceived old piece new → (bytes : List ℕ) → HasTaken bytes old fault
    → HasTaken (bytes ++ piece) new fault
fed_more (Some f) old new piece none h bytes e = absurd cc
fed_more None old new piece none h bytes e = h.kept ∙ ap (λ (r : Received). record { bytes = r.bytes ++ piece; failed = None }) e

pub fed_after : (fault : Option ParamFault) (reader : Received) (piece : List ℕ) → is_some fault ≡ true
    → (bytes : List ℕ) → HasTaken bytes reader fault → HasTaken (bytes ++ piece) reader fault
fed_after None reader piece some bytes h = absurd cc
fed_after (Some f) reader piece some bytes (front, more, e, h) = (front, more ++ piece, ap (λ (xs : List ℕ). xs ++ piece) e ∙ append_assoc front more piece, h)

kept_more : (keeps : Bool) (bytes kept piece : List ℕ) → AreKept keeps bytes kept
    → AreKept keeps (bytes ++ piece) (kept_after keeps kept piece)
kept_more true bytes kept piece h = ap (λ (xs : List ℕ). xs ++ piece) h
kept_more false bytes kept piece h = h

-- what held the bytes still does with a piece more
pub with_piece : (old seen : FedReader) (reader : Received) (fault : Option ParamFault) (piece : List ℕ)
    → seen
    ≡ record {
      reader = old.reader;
      fault = old.fault;
      keeps = old.keeps;
      kept = kept_after old.keeps old.kept piece;
    }
    → ((bytes : List ℕ) → HasTaken bytes seen.reader seen.fault → HasTaken (bytes ++ piece) reader fault)
    → (bytes : List ℕ) → HoldsCapture bytes old
    → HoldsCapture (bytes ++ piece)
    (record { reader = reader; fault = fault; keeps = seen.keeps; kept = seen.kept })
with_piece old seen reader fault piece is goes bytes h =
    let front : HasTaken bytes seen.reader seen.fault = subst (λ (f : FedReader). HasTaken bytes f.reader f.fault) (sym is) h.0 in
    let kept : AreKept seen.keeps (bytes ++ piece) seen.kept =
    subst (λ (f : FedReader). AreKept f.keeps (bytes ++ piece) f.kept) (sym is)
    (kept_more old.keeps bytes old.kept piece h.1) in
    (goes bytes front, kept)

-- ---- the end

-- a fault that was met refuses the bytes
pub met_fault : (reader : Received) (fault : Option ParamFault) (f : ParamFault) → fault ≡ Some f
    → (bytes : List ℕ) → HasTaken bytes reader fault → IsParamFault bytes f
met_fault reader None f is bytes h = absurd cc
met_fault reader (Some g) f is bytes (front, more, e, h) =
    let same : g ≡ f = cc in
    let piece : IsPieceFault front f = subst (IsPieceFault front) same h in
    subst (λ (xs : List ℕ). IsParamFault xs f) (sym e) (param_fault_of front more f piece)

pub read_end : (reader : Received) (read : Result Rows ParamFault)
    → IfOk read (λ rows. (reader.failed ≡ None) × IsParamsOf reader.bytes rows)
    → IfErr read (λ f. TellsNothing IsParamFault reader.failed reader f)
    → (bytes : List ℕ) → HasTaken bytes reader None → IsReadOf bytes read
read_end reader (Ok rows) good bad bytes e = subst (λ (xs : List ℕ). IsParamsOf xs rows) (ap (λ (r : Received). r.bytes) e) good.1
read_end reader (Err f) good bad bytes e = subst (λ (r : Received). TellsNothing IsParamFault r.failed r f) e bad

pub both_end : (reader : Received) (read : Result ParamsAndCodes ParamFault)
    → IfOk read (λ it. (reader.failed ≡ None) × IsParamsOf reader.bytes it.params)
    → IfOk read (λ it. IsCodesOf reader.bytes it.codes.items)
    → IfErr read (λ f. TellsNothing IsEitherFault reader.failed reader f)
    → (bytes : List ℕ) → HasTaken bytes reader None → IsBothReadOf bytes read
both_end reader (Ok it) good codes bad bytes e =
    let same = ap (λ (r : Received). r.bytes) e in (
      subst (λ (xs : List ℕ). IsParamsOf xs it.params) same good.1,
      subst (λ (xs : List ℕ). IsCodesOf xs it.codes.items) same codes,
    )
both_end reader (Err f) good codes bad bytes e = subst (λ (r : Received). TellsNothing IsEitherFault r.failed r f) e bad
