-- Where a stream is cut doesn't matter.
use Rattle.std.proofs.Common.{◌≡◌, ◌≢◌, ◌⊎◌, ℕ, ◌+◌, ◌-◌, ◌<◌, ◌≤◌, List, [], ◌∷◌, ◌++◌, length, map, take, refl, ap, ◌∙◌, sym, subst, arith, inl, inr, append_assoc, Result, Ok, Err}
use Rattle.std.specs.Prelude.{IfErr}
use Rattle.std.specs.List.{AllByRecursion, flat_map}
use Rattle.std.proofs.lemmas.List.{append-nil, length-append, take_all}
use Rattle.std.proofs.lemmas.List.Concat.{flat_map-append}
use Rattle.std.proofs.Math.Seq.{take-append-add}
use Rattle.fints_syntax_segments.specs.Spelling.{Spelled}
use Rattle.fints_syntax.specs.Faults.{KindAt}
use Rattle.fints_syntax.specs.Capture.{IsBreak, Piece, piece_bytes, IsPiece, placed_from, ReadsPlaced, FaultsAt, CaptureFaultAt, IsCaptureFault, IsCapture}
use Rattle.fints_syntax.specs.Streams.{IsBegun, IsRest, SplitsInto, moved_by, whole_len, PieceFaultAt, IsStreamFault, IsPieceStop}
use Rattle.fints_syntax.specs.declared.capture.Placed.{Placed}
use Rattle.fints_syntax.specs.declared.fault.SyntaxFault.{SyntaxFault}
use Rattle.fints_syntax.specs.declared.fault.SyntaxKind.{SyntaxKind}
use Rattle.fints_syntax.specs.declared.fault.SyntaxKind.TheVariants.{Memory, BadBinary, TooLong, Incomplete, BadHead, CaptureTooLong, Failed}
use Rattle.fints_syntax.proofs.Captures.{placed-append, each-append, placed_capture}
use Rattle.fints_syntax.proofs.OneCapture.{kind_only, no_capture_at}
use Rattle.fints_syntax.specs.declared.capture.TheConstants.{MAX_CAPTURE}
use Rattle.fints_syntax.proofs.OneFault.{Ends, tail_ends, fault_ends, same_places, faults_one}

moved_pieces : (n at : ℕ) (ps : List Piece) → placed_from (n + at) ps ≡ moved_by n (placed_from at ps)
moved_pieces n at [] = refl
moved_pieces n at (p ∷ ps) =
    let start : n + at + length p.gap ≡ n + (at + length p.gap) = omega arith in
    let next : n + at + length (piece_bytes p) ≡ n + (at + length (piece_bytes p)) = omega arith in
    let rest : placed_from (n + at + length (piece_bytes p)) ps ≡ moved_by n
    (placed_from (at + length (piece_bytes p)) ps) =
    ap (λ (k : ℕ). placed_from k ps) next ∙ moved_pieces n (at + length (piece_bytes p)) ps in
    let make : ℕ → List Placed → List Placed = λ k xs. record { start = k; segment = p.elements } ∷ xs in
    ap (λ (k : ℕ). make k (placed_from (n + at + length (piece_bytes p)) ps)) start ∙ ap (λ (xs : List Placed). make (n + (at + length p.gap)) xs) rest

whole_size : (bytes rest : List ℕ) (ps : List Piece) → bytes ≡ flat_map piece_bytes ps ++ rest
    → length (flat_map piece_bytes ps) ≡ whole_len bytes rest
whole_size bytes rest ps e = omega (arith, ap length e, length-append (flat_map piece_bytes ps) rest)

-- the segments of what is left follow those of the first part
joined : (first second rest left : List ℕ) (placed more : List Placed) → ReadsPlaced first placed rest
    → ReadsPlaced (rest ++ second) more left
    → ReadsPlaced (first ++ second) (placed ++ moved_by (whole_len first rest) more) left
joined first second rest left placed more r s =
    let ps = r.pieces in
    let qs = s.pieces in
    let n = whole_len first rest in
    let size = whole_size first rest ps r.text in
    let at : 0 + length (flat_map piece_bytes ps) ≡ n + 0 = omega (arith, size) in
    record {
      pieces = ps ++ qs;
      each = each-append ps qs r.each s.each;
      placed_are = placed-append 0 ps qs ∙ ap (λ (xs : List Placed). xs ++ placed_from (0 + length (flat_map piece_bytes ps)) qs) r.placed_are
          ∙ ap (λ (k : ℕ). placed ++ placed_from k qs) at ∙ ap (λ (xs : List Placed). placed ++ xs) (moved_pieces n 0 qs ∙ ap (moved_by n) s.placed_are);
      text =
          ap (λ (xs : List ℕ). xs ++ second) r.text ∙ append_assoc (flat_map piece_bytes ps) rest second
          ∙ ap (λ (xs : List ℕ). flat_map piece_bytes ps ++ xs) s.text
          ∙ sym (append_assoc (flat_map piece_bytes ps) (flat_map piece_bytes qs) left)
          ∙ ap (λ (xs : List ℕ). xs ++ left) (sym (flat_map-append piece_bytes ps qs));
    }

pub cut_segments : (first second : List ℕ) (placed more : List Placed) (rest left : List ℕ)
    → SplitsInto first placed rest → SplitsInto (rest ++ second) more left
    → SplitsInto (first ++ second) (placed ++ moved_by (whole_len first rest) more) left
cut_segments first second placed more rest left r s = record { reads = joined first second rest left placed more r.reads s.reads; left = s.left }

-- the bytes that are read, cut in two
window_cut : (first second rest : List ℕ) (ps : List Piece) (limit : ℕ)
    → first ≡ flat_map piece_bytes ps ++ rest
    → take (whole_len first rest + limit) (first ++ second) ≡ flat_map piece_bytes ps ++ take limit
    (rest ++ second)
window_cut first second rest ps limit e =
    let size = whole_size first rest ps e in
    let both : first ++ second ≡ flat_map piece_bytes ps ++ (rest ++ second) =
    ap (λ (xs : List ℕ). xs ++ second) e ∙ append_assoc (flat_map piece_bytes ps) rest second in
    ap (λ (n : ℕ). take (n + limit) (first ++ second)) (sym size)
    ∙ ap (take (length (flat_map piece_bytes ps) + limit)) both
    ∙ take-append-add (flat_map piece_bytes ps) (rest ++ second) limit

-- segments before bytes that are read
before : (all bytes more : List ℕ) (n : ℕ) (ps : List Piece) (placed : List Placed)
    → AllByRecursion IsPiece ps → length (flat_map piece_bytes ps) ≡ n
    → all ≡ flat_map piece_bytes ps ++ bytes → ReadsPlaced bytes placed more
    → ReadsPlaced all (placed_from 0 ps ++ moved_by n placed) more
before all bytes more n ps placed each size e s =
    let qs = s.pieces in
    let at : 0 + length (flat_map piece_bytes ps) ≡ n + 0 = omega (arith, size) in
    record {
      pieces = ps ++ qs;
      each = each-append ps qs each s.each;
      placed_are =
          placed-append 0 ps qs ∙ ap (λ (k : ℕ). placed_from 0 ps ++ placed_from k qs) at
          ∙ ap (λ (xs : List Placed). placed_from 0 ps ++ xs)
          (moved_pieces n 0 qs ∙ ap (moved_by n) s.placed_are);
      text =
          e ∙ ap (λ (xs : List ℕ). flat_map piece_bytes ps ++ xs) s.text
          ∙ sym (append_assoc (flat_map piece_bytes ps) (flat_map piece_bytes qs) more)
          ∙ ap (λ (xs : List ℕ). xs ++ more) (sym (flat_map-append piece_bytes ps qs));
    }

faults_before : (all bytes : List ℕ) (n : ℕ) (ps : List Piece) (kind : SyntaxKind) (o : ℕ)
    → AllByRecursion IsPiece ps → length (flat_map piece_bytes ps) ≡ n
    → all ≡ flat_map piece_bytes ps ++ bytes → FaultsAt bytes kind o → FaultsAt all kind (n + o)
faults_before all bytes n ps kind o each size e f =
    record {
      placed = placed_from 0 ps ++ moved_by n f.placed;
      gap = f.gap;
      first = f.first;
      more = f.more;
      breaks = f.breaks;
      no_break = f.no_break;
      reads = before all bytes (f.gap ++ f.first ∷ f.more) n ps f.placed each size e f.reads;
      at = f.at;
      fault = f.fault;
      offset_is = omega (arith, f.offset_is, size, ap length e, length-append (flat_map piece_bytes ps) bytes);
    }

split_before : (all bytes : List ℕ) (n : ℕ) (ps : List Piece) (placed : List Placed) (rest : List ℕ)
    → AllByRecursion IsPiece ps → length (flat_map piece_bytes ps) ≡ n
    → all ≡ flat_map piece_bytes ps ++ bytes → SplitsInto bytes placed rest
    → SplitsInto all (placed_from 0 ps ++ moved_by n placed) rest
split_before all bytes n ps placed rest each size e s = record { reads = before all bytes rest n ps placed each size e s.reads; left = s.left }

faults_cut : (first second : List ℕ) (placed : List Placed) (rest : List ℕ) (limit o : ℕ) (kind : SyntaxKind)
    → SplitsInto first placed rest → FaultsAt (take limit (rest ++ second)) kind o
    → FaultsAt (take (whole_len first rest + limit) (first ++ second)) kind (whole_len first rest + o)
faults_cut first second placed rest limit o kind r f =
    let ps = r.reads.pieces in
    faults_before (take (whole_len first rest + limit) (first ++ second)) (take limit (rest ++ second))
    (whole_len first rest) ps kind o r.reads.each (whole_size first rest ps r.reads.text)
    (window_cut first second rest ps limit r.reads.text) f

pub cut_fault : (first second : List ℕ) (placed : List Placed) (rest : List ℕ) (limit o : ℕ)
    (kind : SyntaxKind) → SplitsInto first placed rest → PieceFaultAt limit kind o (rest ++ second)
    → PieceFaultAt (whole_len first rest + limit) kind (whole_len first rest + o) (first ++ second)
cut_fault first second placed rest limit o CaptureTooLong r (at, more, found, left, s) =
    let ps = r.reads.pieces in
    let size = whole_size first rest ps r.reads.text in
    let e = window_cut first second rest ps limit r.reads.text in (
      ap (λ (k : ℕ). whole_len first rest + k) at,
      omega (arith, more, size, ap length r.reads.text, length-append (flat_map piece_bytes ps) rest, length-append first second, length-append rest second),
      placed_from 0 ps ++ moved_by (whole_len first rest) found,
      left,
      split_before (take (whole_len first rest + limit) (first ++ second)) (take limit (rest ++ second))
          (whole_len first rest) ps found left r.reads.each size e s,
    )
cut_fault first second placed rest limit o Memory r (n, f) = absurd f.fault
cut_fault first second placed rest limit o Failed r (n, f) = absurd f.fault
cut_fault first second placed rest limit o Incomplete r (n, f) = absurd (n refl)
cut_fault first second placed rest limit o BadBinary r (n, f) = (n, faults_cut first second placed rest limit o BadBinary r f)
cut_fault first second placed rest limit o TooLong r (n, f) = (n, faults_cut first second placed rest limit o TooLong r f)
cut_fault first second placed rest limit o BadHead r (n, f) = (n, faults_cut first second placed rest limit o BadHead r f)

-- ---- one split

ends_of : (rest gap begun : List ℕ) → AllByRecursion IsBreak gap → IsBegun begun → rest ≡ gap ++ begun
    → Ends rest
ends_of rest gap [] breaks u e = subst Ends (sym (e ∙ append-nil gap)) (tail_ends gap breaks)
ends_of rest gap (b ∷ bs) breaks u e = subst Ends (sym e) (fault_ends gap bs b breaks u.0 (kind_only Incomplete 0 (b ∷ bs) u.1))

pub rest_ends : (rest : List ℕ) → IsRest rest → Ends rest
rest_ends rest r = ends_of rest r.gap r.begun r.breaks r.unended r.text

pub one_split : (bytes : List ℕ) (p q : List Placed) (x y : List ℕ) → SplitsInto bytes p x
    → SplitsInto bytes q y → (p ≡ q) × (x ≡ y)
one_split bytes p q x y r s =
    let e =
    same_places 0 r.reads.pieces s.reads.pieces x y r.reads.each s.reads.each (rest_ends x r.left)
    (rest_ends y s.left) (sym r.reads.text ∙ s.reads.text) in
    (sym r.reads.placed_are ∙ e.0 ∙ s.reads.placed_are, e.1)

-- ---- faults and splits

unfinished_at : (bytes rest gap begun : List ℕ) (b : ℕ) (bs : List ℕ) (placed : List Placed)
    → ReadsPlaced bytes placed rest → AllByRecursion IsBreak gap → begun ≡ b ∷ bs → rest ≡ gap ++ begun
    → (IsBreak b → ⊥) → KindAt Incomplete 0 (b ∷ bs)
    → FaultsAt bytes Incomplete (length bytes - length begun)
unfinished_at bytes rest gap begun b bs placed r breaks e text no_break cut =
    let same : rest ≡ gap ++ b ∷ bs = text ∙ ap (λ (xs : List ℕ). gap ++ xs) e in
    let size : length bytes ≡ length (flat_map piece_bytes r.pieces) + length rest = ap length r.text ∙ length-append (flat_map piece_bytes r.pieces) rest in
    record {
      placed = placed;
      gap = gap;
      first = b;
      more = bs;
      breaks = breaks;
      no_break = no_break;
      reads = subst (λ (xs : List ℕ). ReadsPlaced bytes placed xs) same r;
      at = 0;
      fault = cut;
      offset_is = omega (arith, ap length e, ap length same, size, length-append gap (b ∷ bs));
    }

-- bytes that are split are a capture, or have an unfinished segment at their end
abbrev Sound : List ℕ → Type 0
Sound bytes = ((segments : List (List (List Spelled))) × IsCapture bytes segments) ⊎ ((at : ℕ) × FaultsAt bytes Incomplete at)

sound_from : (bytes rest gap begun : List ℕ) (placed : List Placed) → ReadsPlaced bytes placed rest
    → AllByRecursion IsBreak gap → IsBegun begun → rest ≡ gap ++ begun → Sound bytes
sound_from bytes rest gap [] placed r breaks u text =
    let same : rest ≡ gap = text ∙ append-nil gap in
    inl (map (λ p. p.segment) placed, placed_capture bytes placed (rest, subst (AllByRecursion IsBreak) (sym same) breaks, r))
sound_from bytes rest gap (b ∷ bs) placed r breaks u text =
    inr (
      length bytes - length (b ∷ bs),
      unfinished_at bytes rest gap (b ∷ bs) b bs placed r breaks refl text u.0 u.1,
    )

split_sound : (bytes : List ℕ) (placed : List Placed) (rest : List ℕ) → SplitsInto bytes placed rest
    → Sound bytes
split_sound bytes placed rest s = sound_from bytes rest s.left.gap s.left.begun placed s.reads s.left.breaks s.left.unended s.left.text

pub no_split_at_fault : (bytes : List ℕ) (p : List Placed) (x : List ℕ) (kind : SyntaxKind) (o : ℕ)
    → SplitsInto bytes p x → kind ≢ Incomplete → FaultsAt bytes kind o → ⊥
no_split_at_fault bytes p x kind o s n f =
    elim (split_sound bytes p x s) [
      | inl (segments, c) ↦ no_capture_at bytes kind o segments f c
      | inr (at, g) ↦ n (faults_one bytes kind Incomplete o at f g).0
    ]

of_kind : (bytes : List ℕ) (kind : SyntaxKind) (o : ℕ) → PieceFaultAt MAX_CAPTURE kind o bytes
    → CaptureFaultAt kind o bytes × (kind ≢ Memory) × (kind ≢ Incomplete)
of_kind bytes CaptureTooLong o (at, more, placed, rest, s) = ((at, more, split_sound (take MAX_CAPTURE bytes) placed rest s), (λ e. cc), (λ e. cc))
of_kind bytes Memory o (n, f) = absurd f.fault
of_kind bytes Failed o (n, f) = absurd f.fault
of_kind bytes Incomplete o (n, f) = absurd (n refl)
of_kind bytes BadBinary o (n, f) = (f, (λ e. cc), n)
of_kind bytes TooLong o (n, f) = (f, (λ e. cc), n)
of_kind bytes BadHead o (n, f) = (f, (λ e. cc), n)

pub piece_fault_is_capture_fault : (bytes : List ℕ) (f : SyntaxFault)
    → PieceFaultAt MAX_CAPTURE f.kind f.offset bytes
    → IsCaptureFault bytes f × (f.kind ≢ Memory) × (f.kind ≢ Incomplete)
piece_fault_is_capture_fault bytes f h = of_kind bytes f.kind f.offset h

-- ---- what stops a reader

fault_in : (limit : ℕ) (bytes window : List ℕ) (kind : SyntaxKind) (o : ℕ) → take limit bytes ≡ window
    → kind ≢ Incomplete → FaultsAt window kind o → PieceFaultAt limit kind o bytes
fault_in limit bytes window CaptureTooLong o e n f = absurd f.fault
fault_in limit bytes window Memory o e n f = absurd f.fault
fault_in limit bytes window Failed o e n f = absurd f.fault
fault_in limit bytes window Incomplete o e n f = absurd (n refl)
fault_in limit bytes window BadBinary o e n f = (n, subst (λ (xs : List ℕ). FaultsAt xs BadBinary o) (sym e) f)
fault_in limit bytes window TooLong o e n f = (n, subst (λ (xs : List ℕ). FaultsAt xs TooLong o) (sym e) f)
fault_in limit bytes window BadHead o e n f = (n, subst (λ (xs : List ℕ). FaultsAt xs BadHead o) (sym e) f)

short_stop : (at : ℕ) (bytes : List ℕ) (f : SyntaxFault) → length bytes ≤ MAX_CAPTURE - at
    → IsPieceStop at bytes f → IsStreamFault at bytes f
short_stop at bytes f le (inl e) = inl e
short_stop at bytes f le (inr (o, is, n, h)) = inr (o, is, fault_in (MAX_CAPTURE - at) bytes bytes f.kind o (take_all (MAX_CAPTURE - at) bytes le) n h)

pub stop_of : {A : Type 0} (at : ℕ) (bytes : List ℕ) (r : Result A SyntaxFault)
    → length bytes ≤ MAX_CAPTURE - at → IfErr r (λ f. IsPieceStop at bytes f)
    → IfErr r (λ f. IsStreamFault at bytes f)
stop_of at bytes (Ok v) le h = tt
stop_of at bytes (Err f) le h = short_stop at bytes f le h

pub long_stop : (at : ℕ) (bytes window : List ℕ) (f : SyntaxFault) → window ≡ take (MAX_CAPTURE - at) bytes
    → IsPieceStop at window f → IsStreamFault at bytes f
long_stop at bytes window f e (inl m) = inl m
long_stop at bytes window f e (inr (o, is, n, h)) = inr (o, is, fault_in (MAX_CAPTURE - at) bytes window f.kind o (sym e) n h)

pub too_long : (at : ℕ) (bytes window : List ℕ) (placed : List Placed) (rest : List ℕ) → at ≤ MAX_CAPTURE
    → MAX_CAPTURE - at < length bytes → window ≡ take (MAX_CAPTURE - at) bytes → SplitsInto window placed rest
    → IsStreamFault at bytes (record { kind = CaptureTooLong; offset = MAX_CAPTURE })
too_long at bytes window placed rest le lt e s =
    inr (
      MAX_CAPTURE - at,
      (omega arith),
      (refl, lt, placed, rest, subst (λ (xs : List ℕ). SplitsInto xs placed rest) e s),
    )
