-- Bytes have one fault at most, and a capture's segments one list of places.
use Rattle.std.proofs.Common.{◌≡◌, ◌≢◌, ◌⊎◌, ℕ, ◌+◌, ◌<◌, ◌≤◌, List, [], ◌∷◌, ◌++◌, length, map, drop, take, refl, ap, ◌∙◌, sym, subst, arith, inl, inr, append_assoc}
use Rattle.std.specs.List.{AllByRecursion, flat_map}
use Rattle.std.proofs.lemmas.Bool.{cases_lt}
use Rattle.std.proofs.lemmas.List.{append-nil, length-append, length-drop, take_all}
use Rattle.fints_syntax_segments.specs.Spelling.{Spelled}
use Rattle.fints_syntax_segments.specs.Segment.{Token, tokens_bytes, segment_tokens, segment_bytes, IsSegment}
use Rattle.fints_syntax.specs.Faults.{BeginsWithItem, IsContinued, IsBadAt, HasTooManyItems, BeginsFramed, BeginsWithSegment, KindAt, IsFault, window_of}
use Rattle.fints_syntax.specs.Capture.{IsBreak, Piece, piece_bytes, IsPiece, placed_from, IsCapture, IsPlacedCapture, FaultsAt, CaptureFaultAt, IsCaptureFault}
use Rattle.fints_syntax.specs.declared.capture.Placed.{Placed}
use Rattle.fints_syntax.specs.declared.fault.SyntaxFault.{SyntaxFault}
use Rattle.fints_syntax.specs.declared.fault.SyntaxKind.{SyntaxKind}
use Rattle.fints_syntax.specs.declared.fault.SyntaxKind.TheVariants.{Memory, BadBinary, TooLong, Incomplete, BadHead, CaptureTooLong, Failed}
use Rattle.fints_syntax.proofs.Tokens.{closed-segment}
use Rattle.fints_syntax.proofs.Windows.{token_open, begins_token, leaves, no_frame, open_before_closed}
use Rattle.fints_syntax.proofs.Parsed.{begins_window}
use Rattle.fints_syntax.specs.declared.capture.TheConstants.{MAX_CAPTURE}
use Rattle.fints_syntax.proofs.OneCapture.{same_gap, regroup, same_piece, segment_clean, segment_some, kind_only, no_capture_at}

-- ---- of bytes that begin with no segment

-- open items are none where no item begins
nothing_left : (left : List Token) (more rest : List ℕ) → AllByRecursion IsContinued left
    → more ≡ tokens_bytes left ++ rest → (BeginsWithItem more → ⊥) → more ≡ rest
nothing_left [] more rest o e none = e
nothing_left (t ∷ ts) more rest o e none = absurd (none (subst BeginsWithItem (sym e) (begins_token t ts rest (token_open t o.0))))

-- the first bad `@` has one offset
bad_one : (w : List ℕ) (o p : ℕ) → IsBadAt w o → IsBadAt w p → o ≡ p
bad_one w o p (n, few, opens, le, bad) (m, small, others, within, worse) =
    let r = leaves opens.tokens others.tokens (drop o w) (drop p w) opens.each others.each (sym opens.text ∙ others.text) worse.no_item in
    let e : drop o w ≡ drop p w = nothing_left r.left (drop o w) (drop p w) r.each r.text bad.no_item in
    omega (arith, simp length-drop at (ap length e))

bad_few : (w : List ℕ) (o : ℕ) → IsBadAt w o → HasTooManyItems w → ⊥
bad_few w o (n, few, opens, le, bad) (more, p) =
    let r = leaves p.tokens opens.tokens more (drop o w) p.each opens.each (sym p.text ∙ opens.text) bad.no_item in
    omega (arith, r.count, p.count, opens.count)

bad_not_framed : (w : List ℕ) (o : ℕ) → IsBadAt w o → BeginsFramed w → ⊥
bad_not_framed w o (n, few, opens, le, bad) b = no_frame w n (drop o w) opens bad.no_item b

framed_few : (w : List ℕ) → BeginsFramed w → HasTooManyItems w → ⊥
framed_few w (es, after, f, e) (more, o) =
    let lt = open_before_closed o.tokens (segment_tokens es) more after o.each (closed-segment es f.some f.nonempty f.spelled) (sym o.text ∙ e) in
    omega (arith, o.count, f.items)

-- both faults are one
abbrev Same : SyntaxKind → SyntaxKind → ℕ → ℕ → Type 0
Same k l o p = (k ≡ l) × (o ≡ p)

bad_alone : (l : SyntaxKind) (o p : ℕ) (input : List ℕ) → KindAt BadBinary o input → KindAt l p input
    → Same BadBinary l o p
bad_alone Memory o p input h g = absurd g
bad_alone CaptureTooLong o p input h g = absurd g
bad_alone Failed o p input h g = absurd g
bad_alone BadBinary o p input h g = (refl, bad_one (window_of input) o p h g)
bad_alone TooLong o p input h g = absurd (elim g.1 [ inl many ↦ bad_few (window_of input) o h many | inr (u, long) ↦ u.no_bad o h ])
bad_alone BadHead o p input h g = absurd (bad_not_framed (window_of input) o h g.1)
bad_alone Incomplete o p input h g = absurd (g.1.no_bad o h)

long_alone : (l : SyntaxKind) (o p : ℕ) (input : List ℕ) → KindAt TooLong o input → KindAt l p input
    → Same TooLong l o p
long_alone Memory o p input h g = absurd g
long_alone CaptureTooLong o p input h g = absurd g
long_alone Failed o p input h g = absurd g
long_alone BadBinary o p input h g = absurd (elim h.1 [ inl many ↦ bad_few (window_of input) p g many | inr (u, long) ↦ u.no_bad p g ])
long_alone TooLong o p input h g = (refl, h.0 ∙ sym g.0)
long_alone BadHead o p input h g = absurd (elim h.1 [ inl many ↦ framed_few (window_of input) g.1 many | inr (u, long) ↦ u.no_segment g.1 ])
long_alone Incomplete o p input h g = absurd (elim h.1 [ inl many ↦ g.1.few_items many | inr (u, long) ↦ omega (arith, g.2) ])

head_alone : (l : SyntaxKind) (o p : ℕ) (input : List ℕ) → KindAt BadHead o input → KindAt l p input
    → Same BadHead l o p
head_alone Memory o p input h g = absurd g
head_alone CaptureTooLong o p input h g = absurd g
head_alone Failed o p input h g = absurd g
head_alone BadBinary o p input h g = absurd (bad_not_framed (window_of input) p g h.1)
head_alone TooLong o p input h g = absurd (elim g.1 [ inl many ↦ framed_few (window_of input) h.1 many | inr (u, long) ↦ u.no_segment h.1 ])
head_alone BadHead o p input h g = (refl, h.0 ∙ sym g.0)
head_alone Incomplete o p input h g = absurd (g.1.no_segment h.1)

unfinished_alone : (l : SyntaxKind) (o p : ℕ) (input : List ℕ) → KindAt Incomplete o input → KindAt l p input
    → Same Incomplete l o p
unfinished_alone Memory o p input h g = absurd g
unfinished_alone CaptureTooLong o p input h g = absurd g
unfinished_alone Failed o p input h g = absurd g
unfinished_alone BadBinary o p input h g = absurd (h.1.no_bad p g)
unfinished_alone TooLong o p input h g = absurd (elim g.1 [ inl many ↦ h.1.few_items many | inr (u, long) ↦ omega (arith, h.2) ])
unfinished_alone BadHead o p input h g = absurd (h.1.no_segment g.1)
unfinished_alone Incomplete o p input h g = (refl, h.0 ∙ sym g.0)

kinds_one : (k l : SyntaxKind) (o p : ℕ) (input : List ℕ) → KindAt k o input → KindAt l p input → Same k l o p
kinds_one Memory l o p input h g = absurd h
kinds_one CaptureTooLong l o p input h g = absurd h
kinds_one Failed l o p input h g = absurd h
kinds_one BadBinary l o p input h g = bad_alone l o p input h g
kinds_one TooLong l o p input h g = long_alone l o p input h g
kinds_one BadHead l o p input h g = head_alone l o p input h g
kinds_one Incomplete l o p input h g = unfinished_alone l o p input h g

same_fault : (f g : SyntaxFault) → Same f.kind g.kind f.offset g.offset → f ≡ g
same_fault f g e = let kind = e.0 in let offset = e.1 in λ i. record { kind = kind i; offset = offset i }

-- bytes that begin with no segment have one fault at most
pub one_fault : (input : List ℕ) (f g : SyntaxFault) → IsFault input f → IsFault input g → f ≡ g
one_fault input f g h k = same_fault f g (kinds_one f.kind g.kind f.offset g.offset input h k)

-- and begin with no segment
pub no_segment_at : (input : List ℕ) (f : SyntaxFault) → IsFault input f → BeginsWithSegment (window_of input)
    → ⊥
no_segment_at input f h b = kind_only f.kind f.offset input h b

-- ---- where segments cease

-- no segment follows, after whatever line breaks
abbrev pub Ends : List ℕ → Type 0
Ends x = (gap : List ℕ) (es : List (List Spelled)) (more : List ℕ) → AllByRecursion IsBreak gap → IsSegment es → gap ++ (segment_bytes es ++ more) ≡ x → ⊥

pub tail_ends : (tail : List ℕ) → AllByRecursion IsBreak tail → Ends tail
tail_ends tail b = λ gap es more breaks seg e.
    segment_some es more seg (sym (same_gap gap tail (segment_bytes es ++ more) [] breaks b (segment_clean es more seg) tt (e ∙ sym (append-nil tail))))

pub fault_ends : (gap more : List ℕ) (first : ℕ) → AllByRecursion IsBreak gap → (IsBreak first → ⊥)
    → (BeginsWithSegment (window_of (first ∷ more)) → ⊥) → Ends (gap ++ first ∷ more)
fault_ends gap more first b clean none = λ other es rest breaks seg e.
    let q : segment_bytes es ++ rest ≡ first ∷ more =
    same_gap other gap (segment_bytes es ++ rest) (first ∷ more) breaks b (segment_clean es rest seg)
    clean e in
    none (subst (λ (y : List ℕ). BeginsWithSegment (window_of y)) q (es, _, seg, begins_window (segment_bytes es) rest seg.framed.bytes))

-- a piece's line breaks are as many in each reading
same_start : (p q : Piece) (x y : List ℕ) → p.elements ≡ q.elements → x ≡ y
    → (p.gap ++ segment_bytes p.elements) ++ x ≡ (q.gap ++ segment_bytes q.elements) ++ y
    → length p.gap ≡ length q.gap
same_start p q x y same rest e =
    omega (
      arith,
      ap length e,
      ap length rest,
      ap (λ (es : List (List Spelled)). length (segment_bytes es)) same,
      length-append (p.gap ++ segment_bytes p.elements) x,
      length-append (q.gap ++ segment_bytes q.elements) y,
      length-append p.gap (segment_bytes p.elements),
      length-append q.gap (segment_bytes q.elements),
    )

pub same_places : (at : ℕ) (ps qs : List Piece) (x y : List ℕ) → AllByRecursion IsPiece ps
    → AllByRecursion IsPiece qs → Ends x → Ends y
    → flat_map piece_bytes ps ++ x ≡ flat_map piece_bytes qs ++ y
    → (placed_from at ps ≡ placed_from at qs) × (x ≡ y)
same_places at [] [] x y h g c d e = (refl, e)
same_places at [] (q ∷ qs) x y h g c d e = absurd (c q.gap q.elements (flat_map piece_bytes qs ++ y) g.0.gap g.0.segment (sym (regroup q qs y) ∙ sym e))
same_places at (p ∷ ps) [] x y h g c d e = absurd (d p.gap p.elements (flat_map piece_bytes ps ++ x) h.0.gap h.0.segment (sym (regroup p ps x) ∙ e))
same_places at (p ∷ ps) (q ∷ qs) x y h g c d e =
    let s = same_piece p q ps qs x y h.0 g.0 e in
    let gaps =
    same_start p q (flat_map piece_bytes ps ++ x) (flat_map piece_bytes qs ++ y) s.0 s.1
    (sym (append_assoc (piece_bytes p) (flat_map piece_bytes ps) x) ∙ e
    ∙ append_assoc (piece_bytes q) (flat_map piece_bytes qs) y) in
    let next : at + length (piece_bytes p) ≡ at + length (piece_bytes q) =
    omega (
      arith,
      gaps,
      length-append p.gap (segment_bytes p.elements),
      length-append q.gap (segment_bytes q.elements),
      ap (λ (es : List (List Spelled)). length (segment_bytes es)) s.0,
    ) in
    let r = same_places (at + length (piece_bytes p)) ps qs x y h.1 g.1 c d s.1 in
    let start : at + length p.gap ≡ at + length q.gap = ap (λ (n : ℕ). at + n) gaps in
    let segment = s.0 in
    let one :
    record {
      start = at + length p.gap;
      segment = p.elements;
    } ≡ record { start = at + length q.gap; segment = q.elements }
    =
    λ i. record { start = start i; segment = segment i } in
    let rest = r.0 ∙ ap (λ (n : ℕ). placed_from n qs) next in
    (λ i. one i ∷ rest i, r.1)

-- the segments of a capture have one list of places
pub one_placed : (input : List ℕ) (p q : List Placed) → IsPlacedCapture input p → IsPlacedCapture input q
    → p ≡ q
one_placed input p q (x, b, r) (y, d, s) =
    sym r.placed_are ∙ (same_places 0 r.pieces s.pieces x y r.each s.each (tail_ends x b) (tail_ends y d) (sym r.text ∙ s.text)).0 ∙ s.placed_are

-- a capture is one list of segments
pub one_capture : (input : List ℕ) (s t : List (List (List Spelled))) → IsCapture input s → IsCapture input t
    → s ≡ t
one_capture input s t (p, h, e) (q, g, d) = sym e ∙ ap (λ (x : List Placed). map (λ p. p.segment) x) (one_placed input p q h g) ∙ d

-- ---- of a capture

faults_end : (input : List ℕ) (k : SyntaxKind) (o : ℕ) → (f : FaultsAt input k o)
    → Ends (f.gap ++ f.first ∷ f.more)
faults_end input k o f = fault_ends f.gap f.more f.first f.breaks f.no_break (kind_only k f.at (f.first ∷ f.more) f.fault)

pub faults_one : (input : List ℕ) (k l : SyntaxKind) (o p : ℕ) → FaultsAt input k o → FaultsAt input l p
    → Same k l o p
faults_one input k l o p f g =
    let ends =
    same_places 0 f.reads.pieces g.reads.pieces (f.gap ++ f.first ∷ f.more) (g.gap ++ g.first ∷ g.more)
    f.reads.each g.reads.each (faults_end input k o f) (faults_end input l p g)
    (sym f.reads.text ∙ g.reads.text) in
    let rest : f.first ∷ f.more ≡ g.first ∷ g.more =
    same_gap f.gap g.gap (f.first ∷ f.more) (g.first ∷ g.more) f.breaks g.breaks f.no_break g.no_break
    ends.1 in
    let one = kinds_one k l f.at g.at (g.first ∷ g.more) (subst (λ (y : List ℕ). KindAt k f.at y) rest f.fault) g.fault in
    (one.0, omega (arith, one.1, f.offset_is, g.offset_is, ap length rest))

-- the fault of a capture that is not too long
short_fault : (k : SyntaxKind) (o : ℕ) (input : List ℕ) → length input ≤ MAX_CAPTURE → k ≢ Memory
    → CaptureFaultAt k o input → FaultsAt input k o
short_fault Memory o input le n h = absurd (n refl)
short_fault CaptureTooLong o input le n h = absurd (omega (arith, h.1))
short_fault Failed o input le n h = absurd h.fault
short_fault Incomplete o input le n h = h.1
short_fault BadBinary o input le n h = subst (λ (y : List ℕ). FaultsAt y BadBinary o) (take_all MAX_CAPTURE input le) h
short_fault TooLong o input le n h = subst (λ (y : List ℕ). FaultsAt y TooLong o) (take_all MAX_CAPTURE input le) h
short_fault BadHead o input le n h = subst (λ (y : List ℕ). FaultsAt y BadHead o) (take_all MAX_CAPTURE input le) h

-- of one that is: its window has this fault, or none but an unfinished end
abbrev IsSound : List ℕ → Type 0
IsSound w = ((segments : List (List (List Spelled))) × IsCapture w segments) ⊎ ((at : ℕ) × FaultsAt w Incomplete at)

abbrev LongFault : SyntaxKind → ℕ → List ℕ → Type 0
LongFault k o w = ((k ≡ CaptureTooLong) × (o ≡ MAX_CAPTURE) × IsSound w) ⊎ ((k ≢ Incomplete) × FaultsAt w k o)

long_fault : (k : SyntaxKind) (o : ℕ) (input : List ℕ) → MAX_CAPTURE < length input → k ≢ Memory
    → CaptureFaultAt k o input → LongFault k o (take MAX_CAPTURE input)
long_fault Memory o input lt n h = absurd (n refl)
long_fault CaptureTooLong o input lt n h = inl (refl, h.0, h.2)
long_fault Failed o input lt n h = absurd h.fault
long_fault Incomplete o input lt n h = absurd (omega (arith, h.0))
long_fault BadBinary o input lt n h = inr (λ e. cc, h)
long_fault TooLong o input lt n h = inr (λ e. cc, h)
long_fault BadHead o input lt n h = inr (λ e. cc, h)

not_sound : (w : List ℕ) (k : SyntaxKind) (o : ℕ) → k ≢ Incomplete → FaultsAt w k o → IsSound w → ⊥
not_sound w k o n f (inl (segments, c)) = no_capture_at w k o segments f c
not_sound w k o n f (inr (at, g)) = n (faults_one w k Incomplete o at f g).0

long_one : (w : List ℕ) (k l : SyntaxKind) (o p : ℕ) → LongFault k o w → LongFault l p w → Same k l o p
long_one w k l o p (inl (a, b, c)) (inl (d, e, f)) = (a ∙ sym d, b ∙ sym e)
long_one w k l o p (inl (a, b, c)) (inr (n, g)) = absurd (not_sound w l p n g c)
long_one w k l o p (inr (n, f)) (inl (d, e, c)) = absurd (not_sound w k o n f c)
long_one w k l o p (inr (n, f)) (inr (m, g)) = faults_one w k l o p f g

-- a capture has one fault at most, apart from running out of memory
pub one_capture_fault : (input : List ℕ) (f g : SyntaxFault) → IsCaptureFault input f → IsCaptureFault input g
    → f.kind ≢ Memory → g.kind ≢ Memory → f ≡ g
one_capture_fault input f g h k n m = same_fault f g (elim (cases_lt MAX_CAPTURE (length input)) [
  | inl lt ↦
      long_one (take MAX_CAPTURE input) f.kind g.kind f.offset g.offset
      (long_fault f.kind f.offset input lt n h) (long_fault g.kind g.offset input lt m k)
  | inr le ↦ faults_one input f.kind g.kind f.offset g.offset (short_fault f.kind f.offset input le n h) (short_fault g.kind g.offset input le m k)
])
