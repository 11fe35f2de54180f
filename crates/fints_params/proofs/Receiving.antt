-- What a reader of parameters keeps of a stream that comes in pieces.
use Rattle.std.proofs.Common.{◌≡◌, ℕ, ◌+◌, ◌-◌, ◌≤◌, List, [], ◌∷◌, ◌++◌, length, drop, refl, ap, ◌∙◌, sym, subst, arith, inl, inr, append_assoc, Option, Some, None, Result, Ok, Err, IfErr}
use Rattle.std.specs.List.{flat_map}
use Rattle.std.proofs.lemmas.List.{append-nil, length-append, length-drop}
use Rattle.fints_syntax.specs.Buffered.{Buffered, IsFed, IsUnfed, IsUnread, rest_at, rest_with}
use Rattle.fints_syntax.specs.Streams.{PieceFaultAt, moved_by}
use Rattle.fints_syntax.specs.declared.capture.Placed as syntax
use Rattle.fints_syntax.specs.declared.fault.SyntaxFault.{SyntaxFault}
use Rattle.fints_syntax.specs.declared.stream.ReadTo.{ReadTo}
use Rattle.fints_syntax.specs.declared.capture.TheConstants.{MAX_CAPTURE}
use Rattle.fints_syntax.proofs.Cuts.{piece_fault_is_capture_fault}
use Rattle.fints_syntax.proofs.Lasting.{fault_lasts}
use Rattle.fints_syntax.proofs.Streams.{read_splits}
use Rattle.fints_syntax_segments.specs.declared.item.OwnedSegment.{OwnedSegment}
use Rattle.fints_params.specs.declared.fault.ParamFault.{ParamFault}
use Rattle.fints_params.specs.Captures.{IsParamFault}
use Rattle.fints_params.specs.Refused.{Rule}
use Rattle.fints_params.specs.Faults.{IsMemoryOr, as_param_fault}
use Rattle.fints_params.specs.Pieces.{Received, unread, AreReceived, IsPieceFault, IsReceived, IsNotReceived, TellsNothing}
use Rattle.fints_params.specs.Steps.{HasRead, HasCome, HasComeIn}
use Rattle.fints_params.proofs.GoingOn.{come_none, come_on, piece_fault, syntax_fault, syntax_from}

-- ---- a piece of a stream

-- where nothing is read, any bytes may follow
pub come_anew : {S : Type 0} (rule : Rule) (Good : List OwnedSegment → S → Type 0) (bytes : List ℕ)
    (to : ReadTo) (state : S) → IsUnread to → Good [] state → HasComeIn rule Good bytes to None state
come_anew rule Good bytes to state u g =
    let none = come_none rule Good state to.rest u.ready g in
    ([], bytes, refl, subst (λ (n : ℕ). HasCome rule Good [] (record { whole = n; rest = to.rest }) None state) (sym u.whole) none)

-- a piece that is taken is read on
pub come_with : {S : Type 0} (rule : Rule) (Good : List OwnedSegment → S → Type 0) (old : Buffered)
    (piece : List ℕ) (next : List syntax.Placed) (new : Buffered) (before after : Option ParamFault) (a b : S)
    → old.at ≡ 0 → HasComeIn rule Good old.bytes old.to before a → IsFed old piece next new
    → ((seen : List syntax.Placed) → HasRead rule Good seen before a
    → HasRead rule Good (seen ++ moved_by (rest_at old) next) after b)
    → HasCome rule Good (old.bytes ++ piece) new.to after b
come_with rule Good old piece next new before after a b start (front, more, e, h) k goes =
    let bytes : old.bytes ++ piece ≡ front ++ (more ++ piece) = ap (λ (xs : List ℕ). xs ++ piece) e ∙ append_assoc front more piece in
    let within : old.to.whole + length (rest_with old piece) ≤ MAX_CAPTURE =
    omega (
      arith,
      k.within,
      h.read.within,
      ap length e,
      length-append front more,
      length-append old.bytes piece,
      length-drop old.to.whole (old.bytes ++ piece),
    ) in
    let here : rest_at old ≡ old.to.whole = omega (arith, start) in
    let own =
    subst
    (λ (n : ℕ).
    (seen : List syntax.Placed) → HasRead rule Good seen before a
    → HasRead rule Good (seen ++ moved_by n next) after b)
    here goes in
    let all =
    come_on rule Good front (more ++ piece) (old.bytes ++ piece) (rest_with old piece) old.to k.read
    before after a b next bytes refl h k.is_read within own in
    subst (λ (to : ReadTo). HasCome rule Good (old.bytes ++ piece) to after b) (sym (ap (λ (x : Buffered). x.to) k.new_is)) all

-- all bytes are read then
pub come_all : {S : Type 0} (rule : Rule) (Good : List OwnedSegment → S → Type 0) (old : Buffered)
    (piece : List ℕ) (next : List syntax.Placed) (new : Buffered) (refused : Option ParamFault) (state : S)
    → IsFed old piece next new → HasCome rule Good (old.bytes ++ piece) new.to refused state
    → HasComeIn rule Good new.bytes new.to refused state
come_all rule Good old piece next new refused state k h = (
  old.bytes ++ piece,
  [],
  ap (λ (x : Buffered). x.bytes) k.new_is
      ∙ sym (append-nil (old.bytes ++ piece)),
  h,
)

pub start_stays : (failed : Option ℕ) (old : Buffered) (piece : List ℕ) (f : SyntaxFault) (new : Buffered)
    → IsUnfed failed old piece f new → new.at ≡ old.at
start_stays (Some o) old piece f new (is, same) = ap (λ (x : Buffered). x.at) same
start_stays None old piece f new (inl (m, same)) = ap (λ (x : Buffered). x.at) same
start_stays None old piece f new (inr (o, at, p, s)) = s.at

-- what a reader shows of a buffer
abbrev pub received_by : Buffered → Received
received_by b = record { bytes = b.bytes; failed = b.failed }

pub received : {S : Type 0} (rule : Rule) (Good : List OwnedSegment → S → Type 0) (old : Buffered)
    (piece : List ℕ) (next : List syntax.Placed) (new : Buffered) (refused : Option ParamFault) (state : S)
    → IsFed old piece next new → HasCome rule Good (old.bytes ++ piece) new.to refused state
    → IsReceived (received_by old) piece (received_by new)
received rule Good old piece next new refused state k h = record {
  sound = k.sound;
  placed = h.placed;
  rest = drop new.to.whole (old.bytes ++ piece);
  split = read_splits (old.bytes ++ piece) h.placed new.to h.read;
  short = h.short;
  kept = ap received_by k.new_is;
}

not_received_by : {S : Type 0} (rule : Rule) (Good : List OwnedSegment → S → Type 0) (failed : Option ℕ)
    (old : Buffered) (piece : List ℕ) (f : SyntaxFault) (new : Buffered) (before : Option ParamFault) (a : S)
    → old.at ≡ 0 → HasComeIn rule Good old.bytes old.to before a → IsUnfed failed old piece f new
    → IsNotReceived failed (received_by old) piece (as_param_fault f) (received_by new)
not_received_by rule Good (Some o) old piece f new before a start h (is, same) = (ap as_param_fault is, ap received_by same)
not_received_by rule Good None old piece f new before a start h (inl (m, same)) = inl (ap as_param_fault m, ap received_by same)
not_received_by rule Good None old piece f new before a start (front, more, e, h) (inr (o, at, p, s)) =
    let bytes : old.bytes ++ piece ≡ front ++ (more ++ piece) = ap (λ (xs : List ℕ). xs ++ piece) e ∙ append_assoc front more piece in
    let here : rest_at old ≡ old.to.whole = omega (arith, start) in
    let own : PieceFaultAt (MAX_CAPTURE - old.to.whole) f.kind o (drop old.to.whole (front ++ (more ++ piece))) =
    subst (λ (xs : List ℕ). PieceFaultAt (MAX_CAPTURE - old.to.whole) f.kind o (drop old.to.whole xs)) bytes
    (subst (λ (n : ℕ). PieceFaultAt (MAX_CAPTURE - n) f.kind o (rest_with old piece)) here p) in
    let all = piece_fault front (more ++ piece) h.placed old.to f o h.short h.read (at ∙ ap (λ (n : ℕ). n + o) here) own in
    let fault : PieceFaultAt MAX_CAPTURE f.kind f.offset (old.bytes ++ piece) =
    subst (λ (xs : List ℕ). PieceFaultAt MAX_CAPTURE f.kind f.offset xs) (sym bytes) all in
    inr (
      f,
      fault,
      syntax_from f.kind f.offset (piece_fault_is_capture_fault (old.bytes ++ piece) f fault).1,
      λ i. record { bytes = s.bytes i; failed = s.failed i },
    )

pub not_received : {S : Type 0} (rule : Rule) (Good : List OwnedSegment → S → Type 0) (old : Buffered)
    (piece : List ℕ) (f : SyntaxFault) (new : Buffered) (before : Option ParamFault) (a : S) → old.at ≡ 0
    → HasComeIn rule Good old.bytes old.to before a → IsUnfed old.failed old piece f new
    → IsNotReceived old.failed (received_by old) piece (as_param_fault f) (received_by new)
not_received rule Good old piece f new before a start h u = not_received_by rule Good old.failed old piece f new before a start h u

-- ---- the end

-- why nothing is returned for the bytes
nothing_told : (Refuses : List ℕ → ParamFault → Type 0) (r : Received) (bytes : List ℕ) (f : ParamFault)
    → r.failed ≡ None → bytes ≡ r.bytes → IsMemoryOr (Refuses bytes) f → TellsNothing Refuses r.failed r f
nothing_told Refuses r bytes f none e h =
    subst (λ (o : Option ℕ). TellsNothing Refuses o r f) (sym none)
    (subst (λ (xs : List ℕ). IsMemoryOr (Refuses xs) f) e h)

-- a refusal of what is returned for them
pub unfinished : {T : Type 0} (Refuses : List ℕ → ParamFault → Type 0) (r : Received) (bytes : List ℕ)
    (told : Result T ParamFault) → r.failed ≡ None → bytes ≡ r.bytes → IfErr told (IsMemoryOr (Refuses bytes))
    → IfErr told (TellsNothing Refuses r.failed r)
unfinished Refuses r bytes (Ok _) none e h = tt
unfinished Refuses r bytes (Err f) none e h = nothing_told Refuses r bytes f none e h

-- ---- all pieces

received_all : (old : Received) (pieces : List (List ℕ)) (new : Received) → old.failed ≡ None
    → AreReceived old pieces new
    → new ≡ record { bytes = old.bytes ++ flat_map (λ p. p) pieces; failed = None }
received_all old [] new sound e = e ∙ λ i. record { bytes = sym (append-nil old.bytes) i; failed = sound i }
received_all old (p ∷ ps) new sound (next, h, more) =
    let failed : next.failed ≡ None = ap (λ (r : Received). r.failed) h.kept in
    let bytes : next.bytes ++ flat_map (λ p. p) ps ≡ old.bytes ++ (p ++ flat_map (λ p. p) ps) =
    ap (λ (r : Received). r.bytes ++ flat_map (λ p. p) ps) h.kept
    ∙ append_assoc old.bytes p (flat_map (λ p. p) ps) in
    received_all next ps new failed more ∙ λ i. record { bytes = bytes i; failed = None }

pub any_cutting : (pieces : List (List ℕ)) (new : Received) → AreReceived unread pieces new
    → new ≡ record { bytes = flat_map (λ p. p) pieces; failed = None }
any_cutting pieces new h = received_all unread pieces new refl h

pub param_fault_of : (stream more : List ℕ) (f : ParamFault) → IsPieceFault stream f
    → IsParamFault (stream ++ more) f
param_fault_of stream more f (fault, h, e) =
    inl
    (inl
    (syntax_fault (stream ++ more) f
    (fault, fault_lasts stream more MAX_CAPTURE fault.offset fault.kind h, e)))
