-- How far bytes are read, and what is read of them.
use Rattle.std.proofs.Common.{◌≡◌, ◌≢◌, ℕ, ◌+◌, ◌-◌, ◌<◌, ◌≤◌, List, [], ◌∷◌, ◌++◌, length, take, drop, map, refl, ap, ◌∙◌, sym, subst, arith, inl, inr, Option, Some, None, true, false}
use Rattle.std.specs.Option.{is_some}
use Rattle.std.specs.List.{AllByRecursion}
use Rattle.std.proofs.lemmas.List.{drop-append-le, drop-drop, drop_all, take_all, length-append, length-drop, take-append-drop}
use Rattle.fints_syntax.specs.Capture.{IsBreak, IsPlacedCapture, ReadsPlaced, FaultsAt}
use Rattle.fints_syntax.specs.Streams.{IsBegun, IsReady, IsReadTo, IsStreamFault, PieceFaultAt, moved_by, whole_len}
use Rattle.fints_syntax.specs.declared.capture.Placed.{Placed}
use Rattle.fints_syntax.specs.declared.fault.SyntaxFault.{SyntaxFault}
use Rattle.fints_syntax.specs.declared.fault.SyntaxKind.{SyntaxKind}
use Rattle.fints_syntax.specs.declared.fault.SyntaxKind.TheVariants as kinds
use Rattle.fints_syntax_segments.specs.declared.item.OwnedSegment.{OwnedSegment}
use Rattle.fints_syntax.specs.declared.stream.Begun.{Begun}
use Rattle.fints_syntax.specs.declared.stream.ReadTo.{ReadTo}
use Rattle.fints_params.specs.declared.fault.ParamFault.{ParamFault}
use Rattle.fints_params.specs.declared.fault.ParamFault.TheVariants.{Memory, Syntax}
use Rattle.fints_params.specs.Refused.{Rule, NoneRefused, IsSyntaxFault, IsRefusedIn, IsRefusedOf, values_in}
use Rattle.fints_params.specs.Faults.{IsMemoryOr, fault_from, as_param_fault}
use Rattle.fints_params.specs.Pieces.{IsPieceFault}
use Rattle.fints_params.specs.Steps.{ReadsNext, StopsNext, HasRead, HasCome, ReadsCapture}
use Rattle.fints_syntax.specs.declared.capture.TheConstants.{MAX_CAPTURE}
use Rattle.fints_syntax.proofs.Cuts.{cut_fault, cut_segments, piece_fault_is_capture_fault}
use Rattle.fints_syntax.proofs.Streams.{begun_goes_on, read_splits}
use Rattle.fints_params.proofs.Viewed.{views_none, views_push, views_stopped, views_stay}

-- how many bytes the whole segments take
whole_is : (bytes : List ℕ) (placed : List Placed) (to : ReadTo) → IsReadTo bytes placed to
    → whole_len bytes (drop to.whole bytes) ≡ to.whole
whole_is bytes placed to h = omega (arith, h.within, length-drop to.whole bytes)

pub read_on : (front more : List ℕ) (placed next : List Placed) (to read : ReadTo) → IsReadTo front placed to
    → IsReadTo (drop to.whole (front ++ more)) next read
    → IsReadTo (front ++ more) (placed ++ moved_by to.whole next)
    (record { whole = to.whole + read.whole; rest = read.rest })
read_on front more placed next to read h g =
    let bytes = front ++ more in
    let rest = drop to.whole front in
    let e : drop to.whole bytes ≡ rest ++ more = drop-append-le to.whole front more h.within in
    let k : IsReadTo (rest ++ more) next read = subst (λ (xs : List ℕ). IsReadTo xs next read) e g in
    let both =
    cut_segments front more placed next rest (drop read.whole (rest ++ more))
    (read_splits front placed to h) (read_splits (rest ++ more) next read k) in
    let left : drop read.whole (rest ++ more) ≡ drop (to.whole + read.whole) bytes = ap (drop read.whole) (sym e) ∙ drop-drop read.whole to.whole bytes in
    let here = subst (λ (n : ℕ). ReadsPlaced bytes (placed ++ moved_by n next) (drop read.whole (rest ++ more))) (whole_is front placed to h) both.reads in
    record {
      within = omega (arith, h.within, k.within, length-append front more, length-append rest more, length-drop to.whole front);
      reads = subst (λ (xs : List ℕ). ReadsPlaced bytes (placed ++ moved_by to.whole next) xs) left here;
      ready = subst (λ (xs : List ℕ). IsReady xs read.rest) left k.ready;
      unended = subst (λ (xs : List ℕ). IsBegun (drop read.rest.gap xs)) left k.unended;
    }

pub syntax_from : (kind : SyntaxKind) (o : ℕ) → kind ≢ kinds.Memory
    → fault_from kind o ≡ Syntax (record { kind = kind; offset = o })
syntax_from kinds.Memory o n = absurd (n refl)
syntax_from kinds.BadBinary o n = refl
syntax_from kinds.TooLong o n = refl
syntax_from kinds.Incomplete o n = refl
syntax_from kinds.BadHead o n = refl
syntax_from kinds.CaptureTooLong o n = refl
syntax_from kinds.Failed o n = refl

rest_is : (front more bytes rest : List ℕ) (to : ReadTo) (placed : List Placed) → bytes ≡ front ++ more
    → rest ≡ drop to.whole bytes → IsReadTo front placed to → rest ≡ drop to.whole front ++ more
rest_is front more bytes rest to placed e back h = back ∙ ap (drop to.whole) e ∙ drop-append-le to.whole front more h.within

-- what is looked at of the rest
pub ready_at : (front more bytes rest : List ℕ) (to : ReadTo) (placed : List Placed) → bytes ≡ front ++ more
    → rest ≡ drop to.whole bytes → length front ≤ MAX_CAPTURE → IsReadTo front placed to
    → IsReady (take (MAX_CAPTURE - to.whole) rest) to.rest
ready_at front more bytes rest to placed e back short h =
    let own = begun_goes_on (drop to.whole front) more (MAX_CAPTURE - to.whole) to.rest h.ready (omega (arith, short, length-drop to.whole front)) in
    subst (λ (xs : List ℕ). IsReady (take (MAX_CAPTURE - to.whole) xs) to.rest) (sym (rest_is front more bytes rest to placed e back h)) own

-- no byte is read
pub come_none : {S : Type 0} (rule : Rule) (Good : List OwnedSegment → S → Type 0) (state : S) (b : Begun)
    → ((rest : List ℕ) → IsReady rest b) → Good [] state
    → HasCome rule Good [] (record { whole = 0; rest = b }) None state
come_none rule Good state b fresh g =
    let e : drop {A = ℕ} b.gap [] ≡ [] = drop_all {X = ℕ} b.gap [] (omega arith) in
    record {
      short = omega arith;
      placed = [];
      read =
          record {
            within =
                omega arith;
            reads = record { pieces = []; each = tt; placed_are = refl; text = refl };
            ready = fresh [];
            unended = subst IsBegun (sym e) tt;
          };
      segments = views_none Good state g;
    }

-- more of them are
pub come_on : {S : Type 0} (rule : Rule) (Good : List OwnedSegment → S → Type 0)
    (front more bytes rest : List ℕ) (to read : ReadTo) (before after : Option ParamFault) (a b : S)
    (next : List Placed)
    → bytes ≡ front ++ more → rest ≡ drop to.whole bytes → HasCome rule Good front to before a
    → IsReadTo rest next read → to.whole + length rest ≤ MAX_CAPTURE
    → ((seen : List Placed) → HasRead rule Good seen before a
    → HasRead rule Good (seen ++ moved_by to.whole next) after b)
    → HasCome rule Good bytes (record { whole = to.whole + read.whole; rest = read.rest }) after b
come_on rule Good front more bytes rest to read before after a b next e back h k le goes =
    let own : IsReadTo (drop to.whole (front ++ more)) next read = subst (λ (xs : List ℕ). IsReadTo xs next read) (back ∙ ap (drop to.whole) e) k in
    let all = read_on front more h.placed next to read h.read own in
    record {
      short = omega (arith, le, ap length back, length-drop to.whole bytes);
      placed = h.placed ++ moved_by to.whole next;
      read = subst (λ (xs : List ℕ). IsReadTo xs (h.placed ++ moved_by to.whole next) (record { whole = to.whole + read.whole; rest = read.rest })) (sym e) all;
      segments = goes h.placed h.segments;
    }

-- a fault of the rest with more bytes is the stream's
pub piece_fault : (front more : List ℕ) (placed : List Placed) (to : ReadTo) (f : SyntaxFault) (o : ℕ)
    → length front ≤ MAX_CAPTURE → IsReadTo front placed to → f.offset ≡ to.whole + o
    → PieceFaultAt (MAX_CAPTURE - to.whole) f.kind o (drop to.whole (front ++ more))
    → PieceFaultAt MAX_CAPTURE f.kind f.offset (front ++ more)
piece_fault front more placed to f o short h is p =
    let rest = drop to.whole front in
    let e : drop to.whole (front ++ more) ≡ rest ++ more = drop-append-le to.whole front more h.within in
    let own : PieceFaultAt (MAX_CAPTURE - to.whole) f.kind o (rest ++ more) = subst (λ (xs : List ℕ). PieceFaultAt (MAX_CAPTURE - to.whole) f.kind o xs) e p in
    let all = cut_fault front more placed rest (MAX_CAPTURE - to.whole) o f.kind (read_splits front placed to h) own in
    let n = whole_is front placed to h in
    let limit : whole_len front rest + (MAX_CAPTURE - to.whole) ≡ MAX_CAPTURE = omega (arith, n, h.within, short) in
    let at : whole_len front rest + o ≡ f.offset = omega (arith, n, is) in
    subst (λ (k : ℕ). PieceFaultAt MAX_CAPTURE f.kind k (front ++ more)) at
    (subst (λ (k : ℕ). PieceFaultAt k f.kind (whole_len front rest + o) (front ++ more)) limit all)

pub stream_fault : (front more : List ℕ) (placed : List Placed) (to : ReadTo) (f : SyntaxFault)
    → length front ≤ MAX_CAPTURE → IsReadTo front placed to
    → IsStreamFault to.whole (drop to.whole (front ++ more)) f
    → IsMemoryOr (IsPieceFault (front ++ more)) (as_param_fault f)
stream_fault front more placed to f short h (inl m) = inl (ap as_param_fault m)
stream_fault front more placed to f short h (inr (o, is, p)) =
    let here = piece_fault front more placed to f o short h is p in
    inr (f, here, syntax_from f.kind f.offset (piece_fault_is_capture_fault (front ++ more) f here).1)

pub come_fault : {S : Type 0} (rule : Rule) (Good : List OwnedSegment → S → Type 0)
    (front more bytes rest : List ℕ) (to : ReadTo) (before : Option ParamFault) (a : S) (f : SyntaxFault)
    → bytes ≡ front ++ more → rest ≡ drop to.whole bytes → HasCome rule Good front to before a
    → IsStreamFault to.whole rest f → IsMemoryOr (IsPieceFault bytes) (as_param_fault f)
come_fault rule Good front more bytes rest to before a f e back h k =
    let own : IsStreamFault to.whole (drop to.whole (front ++ more)) f = subst (λ (xs : List ℕ). IsStreamFault to.whole xs f) (back ∙ ap (drop to.whole) e) k in
    subst (λ (xs : List ℕ). IsMemoryOr (IsPieceFault xs) (as_param_fault f)) (sym e) (stream_fault front more h.placed to f h.short h.read own)

-- the fault of a stream is that of a capture
pub syntax_fault : (bytes : List ℕ) (f : ParamFault) → IsPieceFault bytes f → IsSyntaxFault bytes f
syntax_fault bytes f (fault, h, e) = let l = piece_fault_is_capture_fault bytes fault h in (fault, (l.0, l.1), e)

-- ---- where the bytes are all

whole : {S : Type 0} (rule : Rule) (Good : List OwnedSegment → S → Type 0) (bytes : List ℕ) (to : ReadTo)
    (refused : Option ParamFault) (state : S) (h : HasCome rule Good bytes to refused state)
    → length bytes ≤ to.whole + to.rest.gap → IsPlacedCapture bytes h.placed
whole rule Good bytes to refused state h le =
    let rest = drop to.whole bytes in
    let all : take to.rest.gap rest ≡ rest = take_all to.rest.gap rest (omega (arith, length-drop to.whole bytes, h.read.within, le)) in
    (rest, subst (AllByRecursion IsBreak) all h.read.ready.breaks, h.read.reads)

pub ended : {S : Type 0} (rule : Rule) (Good : List OwnedSegment → S → Type 0) (bytes : List ℕ) (to : ReadTo)
    (refused : Option ParamFault) (state : S) → refused ≡ None → HasCome rule Good bytes to refused state
    → length bytes ≤ to.whole + to.rest.gap → ReadsCapture Good bytes state
ended rule Good bytes to (Some f) state e h le = absurd cc
ended rule Good bytes to None state e h le =
    let (segments, opened, g) = h.segments in (
      segments,
      record {
        short =
            h.short;
        outer = values_in h.placed;
        reads = (
          map (λ p. p.segment) h.placed,
          (h.placed, whole rule Good bytes to None state h le, refl),
          refl,
        );
        opened = opened;
      },
      g,
    )

pub end_refused : {S : Type 0} (rule : Rule) (Good : List OwnedSegment → S → Type 0) (bytes : List ℕ)
    (to : ReadTo) (refused : Option ParamFault) (state : S) (f : ParamFault) → refused ≡ Some f
    → HasCome rule Good bytes to refused state → length bytes ≤ to.whole + to.rest.gap
    → IsRefusedOf rule bytes f
end_refused rule Good bytes to None state f e h le = absurd cc
end_refused rule Good bytes to (Some g) state f e h le =
    let same : g ≡ f = cc in
    subst (IsRefusedOf rule bytes) same (inr (h.short, h.placed, whole rule Good bytes to (Some g) state h le, h.segments))

cut_faults : (bytes : List ℕ) (placed : List Placed) (gap begun : List ℕ) (o : ℕ)
    → ReadsPlaced bytes placed (gap ++ begun) → AllByRecursion IsBreak gap → IsBegun begun → 0 < length begun
    → o + length begun ≡ length bytes → FaultsAt bytes kinds.Incomplete o
cut_faults bytes placed gap [] o r breaks u some at = absurd (omega (arith, some))
cut_faults bytes placed gap (b ∷ bs) o r breaks u some at =
    record {
      placed = placed;
      gap = gap;
      first = b;
      more = bs;
      breaks = breaks;
      no_break = u.0;
      reads = r;
      at = 0;
      fault = u.1;
      offset_is = omega (arith, at);
    }

-- a segment has begun and doesn't end
pub end_cut : {S : Type 0} (rule : Rule) (Good : List OwnedSegment → S → Type 0) (bytes : List ℕ)
    (to : ReadTo) (refused : Option ParamFault) (state : S) → HasCome rule Good bytes to refused state
    → to.whole + to.rest.gap < length bytes
    → IsRefusedOf rule bytes (Syntax (record { kind = kinds.Incomplete; offset = to.whole + to.rest.gap }))
end_cut rule Good bytes to refused state h lt =
    let rest = drop to.whole bytes in
    let gap = take to.rest.gap rest in
    let begun = drop to.rest.gap rest in
    let size = length-drop to.whole bytes in
    let left = length-drop to.rest.gap rest in
    let reads = subst (λ (xs : List ℕ). ReadsPlaced bytes h.placed xs) (sym (take-append-drop to.rest.gap rest)) h.read.reads in
    let fault =
    cut_faults bytes h.placed gap begun (to.whole + to.rest.gap) reads h.read.ready.breaks h.read.unended
    (omega (arith, lt, size, left)) (omega (arith, lt, size, left)) in
    inl (record { kind = kinds.Incomplete; offset = to.whole + to.rest.gap }, ((h.short, fault), (λ e. cc)), refl)

-- ---- one more segment

pub read_past : {S : Type 0} (rule : Rule) (Good : List OwnedSegment → S → Type 0)
    (refused : Option ParamFault) (state : S) (view : Placed) → is_some refused ≡ true
    → (seen : List Placed) → HasRead rule Good seen refused state
    → HasRead rule Good (seen ++ view ∷ []) refused state
read_past rule Good None state view e = absurd cc
read_past rule Good (Some f) state view e = λ seen h. views_stay rule seen view f h

pub read_next : {S : Type 0} (rule : Rule) (Good : List OwnedSegment → S → Type 0)
    (refused : Option ParamFault) (a b : S) (view : Placed) → is_some refused ≡ false
    → ReadsNext Good a b view
    → (seen : List Placed) → HasRead rule Good seen refused a
    → HasRead rule Good (seen ++ view ∷ []) refused b
read_next rule Good None a b view e k = λ seen h. views_push Good a b seen view h k
read_next rule Good (Some f) a b view e k = absurd cc

pub read_stop : {S : Type 0} (rule : Rule) (Good : List OwnedSegment → S → Type 0)
    (refused : Option ParamFault) (a : S) (view : Placed) (f : ParamFault)
    → ((seen : List OwnedSegment) → Good seen a → NoneRefused rule seen)
    → is_some refused ≡ false → f ≢ Memory → IsMemoryOr (StopsNext rule Good a view) f
    → (seen : List Placed) → HasRead rule Good seen refused a → IsRefusedIn rule (seen ++ view ∷ []) f
read_stop rule Good (Some g) a view f none e n k = absurd cc
read_stop rule Good None a view f none e n (inl m) = absurd (n m)
read_stop rule Good None a view f none e n (inr k) = λ seen h. views_stopped rule Good a seen view f none h k
