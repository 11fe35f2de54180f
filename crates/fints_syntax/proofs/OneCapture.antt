-- A capture is one list of segments, and bytes with a fault are none.
use Rattle.std.proofs.Common.{◌≡◌, ◌≢◌, ℕ, ◌≤◌, true, List, [], ◌∷◌, ◌++◌, length, map, Option, Some, None, option_and_then, refl, ap, ◌∙◌, sym, subst, arith, inl, inr, append_assoc}
use Rattle.std.specs.Prelude.{IsSome}
use Rattle.std.specs.List.{AllByRecursion, flat_map}
use Rattle.std.proofs.lemmas.Bool.{and_parts}
use Rattle.std.proofs.lemmas.Bool.Decides.{nat_tests}
use Rattle.std.proofs.lemmas.List.{take_all, append-nil, append_cancel_left}
use Rattle.fints_syntax_segments.specs.Spelling.{Spelled, text, binary, escaped, plain, spelled_bytes, text_value}
use Rattle.fints_syntax_segments.specs.Segment.{tokens_bytes, element_tokens, segment_tokens, segment_bytes, item_value, element_head, IsSegment}
use Rattle.fints_syntax_segments.specs.Spelling.{item_of}
use Rattle.fints_syntax_segments.specs.Kind.{kind_from}
use Rattle.fints_syntax_segments.specs.KindLaws.{is_kind_byte, spelled_kind}
use Rattle.fints_syntax_segments.specs.Head.{head_with}
use Rattle.fints_syntax.specs.Faults.{KindAt, BeginsWithSegment, window_of}
use Rattle.fints_syntax.specs.Capture.{IsBreak, IsClean, Piece, piece_bytes, IsPiece, IsCapture, FaultsAt, IsCaptureFault, CaptureFaultAt}
use Rattle.fints_syntax.specs.declared.fault.SyntaxFault.{SyntaxFault}
use Rattle.fints_syntax.specs.declared.fault.SyntaxKind.{SyntaxKind}
use Rattle.fints_syntax.specs.declared.fault.SyntaxKind.TheVariants.{Memory, BadBinary, TooLong, Incomplete, BadHead, CaptureTooLong, Failed}
use Rattle.fints_syntax.proofs.Tokens.{one_segment}
use Rattle.fints_syntax.specs.declared.capture.TheConstants.{MAX_CAPTURE}
use Rattle.fints_syntax.proofs.Parsed.{bad_only, too_many_only, begins_window}

-- ---- the first byte of a segment is no line break

-- a text that begins with a byte which is no line break
pub record Begins (bytes : List ℕ) : Type 0 where
  pub first : ℕ
  pub more : List ℕ
  pub text : bytes ≡ first ∷ more
  pub no_break : IsBreak first → ⊥

same_tail : (a b : ℕ) (x y : List ℕ) → a ∷ x ≡ b ∷ y → x ≡ y
same_tail a b x y e = cc

same_first : (a b : ℕ) (x y : List ℕ) → a ∷ x ≡ b ∷ y → a ≡ b
same_first a b x y e = cc

then_some : {A B : Type 0} (f : A → Option B) (o : Option A) → IsSome (option_and_then f o) → IsSome o
then_some f None h = absurd cc
then_some f (Some x) h = refl

no_break_letter : (b : ℕ) → is_kind_byte b ≡ true → IsBreak b → ⊥
no_break_letter b h e = elim e [ inl q ↦ grind (arith, nat_tests) | inr q ↦ grind (arith, nat_tests) ]

-- an identifier has a first byte, which is no line break
kind_begins : (bytes : List ℕ) → IsSome (kind_from bytes) → Begins bytes
kind_begins [] h = absurd cc
kind_begins (b ∷ bs) h =
    let all = (spelled_kind (b ∷ bs) h).each in
    record { first = b; more = bs; text = refl; no_break = no_break_letter b (and_parts (is_kind_byte b) _ all).0 }

head_with_id : (i n v r : List ℕ) → IsSome (head_with i n v r) → IsSome (kind_from i)
head_with_id i n v r h = then_some _ (kind_from i) h

abbrev value : Spelled → List ℕ
value s = item_value (item_of s)

head_id : (s : Spelled) (ss : List Spelled) → IsSome (element_head (item_of s ∷ map item_of ss))
    → IsSome (kind_from (item_value (item_of s)))
head_id s [] h = absurd cc
head_id s (a ∷ []) h = absurd cc
head_id s (a ∷ b ∷ []) h = head_with_id (value s) (value a) (value b) [] h
head_id s (a ∷ b ∷ c ∷ []) h = head_with_id (value s) (value a) (value b) (value c) h
head_id s (a ∷ b ∷ c ∷ d ∷ ss) h = absurd cc

-- `?` and `@` are no line breaks
spelled_begins : (s : Spelled) → Begins (item_value (item_of s)) → Begins (spelled_bytes s)
spelled_begins (text []) h = absurd cc
spelled_begins (text (escaped b ∷ us)) h = record { first = 63; more = _; text = refl; no_break = λ e. elim e [ inl q ↦ absurd cc | inr q ↦ absurd cc ] }
spelled_begins (text (plain b ∷ us)) h =
    let same : b ≡ h.first = same_first b h.first (text_value us) h.more h.text in
    record { first = b; more = _; text = refl; no_break = λ e. h.no_break (subst IsBreak same e) }
spelled_begins (binary digits bytes) h = record { first = 64; more = _; text = refl; no_break = λ e. elim e [ inl q ↦ absurd cc | inr q ↦ absurd cc ] }

begins-append : (a b : List ℕ) → Begins a → Begins (a ++ b)
begins-append a b h = record { first = h.first; more = h.more ++ b; text = ap (λ (x : List ℕ). x ++ b) h.text; no_break = h.no_break }

-- the first item of the segment is at its front
front_item : (s : Spelled) (ss : List Spelled) (es : List (List Spelled))
    → (more : List ℕ) × (segment_bytes ((s ∷ ss) ∷ es) ≡ spelled_bytes s ++ more)
front_item s [] [] = (39 ∷ [], append-nil (spelled_bytes s ++ 39 ∷ []))
front_item s (a ∷ ss) [] = (58 ∷ tokens_bytes (element_tokens 39 (a ∷ ss)), simp append_assoc)
front_item s [] (e ∷ es) = (43 ∷ segment_bytes (e ∷ es), simp append_assoc)
front_item s (a ∷ ss) (e ∷ es) = (58 ∷ tokens_bytes (element_tokens 43 (a ∷ ss) ++ segment_tokens (e ∷ es)), simp append_assoc)

segment_begins : (es : List (List Spelled)) → IsSegment es → Begins (segment_bytes es)
segment_begins [] seg = absurd (omega (arith, seg.framed.some))
segment_begins ([] ∷ es) seg = absurd (omega (arith, seg.framed.nonempty.0))
segment_begins ((s ∷ ss) ∷ es) seg =
    let front = front_item s ss es in
    subst Begins (sym front.1) (begins-append (spelled_bytes s) front.0 (spelled_begins s (kind_begins _ (head_id s ss seg.head))))

pub segment_clean : (es : List (List Spelled)) (x : List ℕ) → IsSegment es → IsClean (segment_bytes es ++ x)
segment_clean es x seg =
    let b = begins-append (segment_bytes es) x (segment_begins es seg) in
    subst IsClean (sym b.text) b.no_break

pub segment_some : (es : List (List Spelled)) (x : List ℕ) → IsSegment es → [] ≡ segment_bytes es ++ x → ⊥
segment_some es x seg e = let b = begins-append (segment_bytes es) x (segment_begins es seg) in let q : [] ≡ b.first ∷ b.more = e ∙ b.text in cc

-- ---- line breaks before what begins with none are the same in each reading

pub same_gap : (g h x y : List ℕ) → AllByRecursion IsBreak g → AllByRecursion IsBreak h → IsClean x
    → IsClean y → g ++ x ≡ h ++ y → x ≡ y
same_gap [] [] x y p q c d e = e
same_gap [] (b ∷ h) x y p q c d e = absurd (let c' : IsClean (b ∷ (h ++ y)) = subst IsClean e c in c' q.0)
same_gap (b ∷ g) [] x y p q c d e = absurd (let d' : IsClean (b ∷ (g ++ x)) = subst IsClean (sym e) d in d' p.0)
same_gap (a ∷ g) (b ∷ h) x y p q c d e = same_gap g h x y p.1 q.1 c d (same_tail a b (g ++ x) (h ++ y) e)

-- a piece and what follows it
pub regroup : (p : Piece) (ps : List Piece) (x : List ℕ)
    → flat_map piece_bytes
    (p ∷ ps) ++ x ≡ p.gap ++ (segment_bytes p.elements ++ (flat_map piece_bytes ps ++ x))
regroup p ps x = simp append_assoc

-- one piece by itself, against line breaks at the end
no_piece : (p : Piece) (ps : List Piece) (tail x : List ℕ) → IsPiece p → AllByRecursion IsBreak tail
    → flat_map piece_bytes (p ∷ ps) ++ x ≡ tail → ⊥
no_piece p ps tail x h b e =
    let rest = segment_bytes p.elements ++ (flat_map piece_bytes ps ++ x) in
    let both : p.gap ++ rest ≡ tail ++ [] = sym (regroup p ps x) ∙ e ∙ sym (append-nil tail) in
    segment_some p.elements (flat_map piece_bytes ps ++ x) h.segment (sym (same_gap p.gap tail rest [] h.gap b (segment_clean p.elements _ h.segment) tt both))

-- the first pieces are of one segment, and so is what follows
pub same_piece : (p q : Piece) (ps qs : List Piece) (x y : List ℕ) → IsPiece p → IsPiece q
    → flat_map piece_bytes (p ∷ ps) ++ x ≡ flat_map piece_bytes (q ∷ qs) ++ y
    → (p.elements ≡ q.elements) × (flat_map piece_bytes ps ++ x ≡ flat_map piece_bytes qs ++ y)
same_piece p q ps qs x y h g e =
    let a = flat_map piece_bytes ps ++ x in
    let b = flat_map piece_bytes qs ++ y in
    let both : p.gap ++ (segment_bytes p.elements ++ a) ≡ q.gap ++ (segment_bytes q.elements ++ b) = sym (regroup p ps x) ∙ e ∙ regroup q qs y in
    let texts : segment_bytes p.elements ++ a ≡ segment_bytes q.elements ++ b =
    same_gap p.gap q.gap _ _ h.gap g.gap (segment_clean p.elements a h.segment)
    (segment_clean q.elements b g.segment) both in
    let same : p.elements ≡ q.elements = one_segment p.elements q.elements a b h.segment.framed g.segment.framed texts in
    let moved : segment_bytes p.elements ++ a ≡ segment_bytes p.elements ++ b = texts ∙ ap (λ (es : List (List Spelled)). segment_bytes es ++ b) (sym same) in
    (same, append_cancel_left (segment_bytes p.elements) a b moved)

-- ---- bytes with a fault are no capture

pub kind_only : (kind : SyntaxKind) (o : ℕ) (input : List ℕ) → KindAt kind o input
    → BeginsWithSegment (window_of input) → ⊥
kind_only Memory o input h b = h
kind_only CaptureTooLong o input h b = h
kind_only Failed o input h b = h
kind_only BadBinary o input h b = bad_only (window_of input) o h b
kind_only TooLong o input h b = elim h.1 [ inl many ↦ too_many_only (window_of input) many b | inr (u, long) ↦ u.no_segment (b.0, b.1, b.2.framed, b.3) ]
kind_only BadHead o input h b = h.2 b
kind_only Incomplete o input h b = h.1.no_segment (b.0, b.1, b.2.framed, b.3)

-- pieces do not stop where a byte follows that begins no segment and is no line break
goes_on : (ps qs : List Piece) (x gap more : List ℕ) (first : ℕ) → AllByRecursion IsPiece ps
    → AllByRecursion IsPiece qs → AllByRecursion IsBreak x → AllByRecursion IsBreak gap → (IsBreak first → ⊥)
    → (BeginsWithSegment (window_of (first ∷ more)) → ⊥)
    → flat_map piece_bytes ps ++ x ≡ flat_map piece_bytes qs ++ (gap ++ first ∷ more) → ⊥
goes_on [] [] x gap more first h g b d clean none e =
    let q : [] ≡ first ∷ more = same_gap x gap [] (first ∷ more) b d tt clean (append-nil x ∙ e) in
    cc
goes_on [] (q ∷ qs) x gap more first h g b d clean none e = no_piece q qs x (gap ++ first ∷ more) g.0 b (sym e)
goes_on (p ∷ ps) [] x gap more first h g b d clean none e =
    let rest = flat_map piece_bytes ps ++ x in
    let q : segment_bytes p.elements ++ rest ≡ first ∷ more =
    same_gap p.gap gap (segment_bytes p.elements ++ rest) (first ∷ more) h.0.gap d
    (segment_clean p.elements rest h.0.segment) clean (sym (regroup p ps x) ∙ e) in
    none
    (subst (λ (y : List ℕ). BeginsWithSegment (window_of y)) q (
      p.elements,
      _,
      h.0.segment,
      begins_window (segment_bytes p.elements) rest h.0.segment.framed.bytes,
    ))
goes_on (p ∷ ps) (q ∷ qs) x gap more first h g b d clean none e =
    goes_on ps qs x gap more first h.1 g.1 b d clean none (same_piece p q ps qs x (gap ++ first ∷ more) h.0 g.0 e).1

pub no_capture_at : (input : List ℕ) (kind : SyntaxKind) (o : ℕ) (s : List (List (List Spelled)))
    → FaultsAt input kind o → IsCapture input s → ⊥
no_capture_at input kind o s f (placed, (x, b, r), same) =
    goes_on r.pieces f.reads.pieces x f.gap f.more f.first r.each f.reads.each b f.breaks f.no_break
    (kind_only kind f.at (f.first ∷ f.more) f.fault) (sym r.text ∙ f.reads.text)

no_capture : (input : List ℕ) (kind : SyntaxKind) (o : ℕ) (s : List (List (List Spelled)))
    → CaptureFaultAt kind o input → kind ≢ Memory → length input ≤ MAX_CAPTURE → IsCapture input s → ⊥
no_capture input Memory o s h n le c = n refl
no_capture input CaptureTooLong o s h n le c = omega (arith, h.1)
no_capture input Failed o s h n le c = h.fault
no_capture input Incomplete o s h n le c = no_capture_at input Incomplete o s h.1 c
no_capture input BadBinary o s h n le c = no_capture_at input BadBinary o s (subst (λ (y : List ℕ). FaultsAt y BadBinary o) (take_all MAX_CAPTURE input le) h) c
no_capture input TooLong o s h n le c = no_capture_at input TooLong o s (subst (λ (y : List ℕ). FaultsAt y TooLong o) (take_all MAX_CAPTURE input le) h) c
no_capture input BadHead o s h n le c = no_capture_at input BadHead o s (subst (λ (y : List ℕ). FaultsAt y BadHead o) (take_all MAX_CAPTURE input le) h) c

-- bytes with a fault are no capture
pub no_capture_at_fault : (input : List ℕ) (f : SyntaxFault) (s : List (List (List Spelled)))
    → IsCaptureFault input f → f.kind ≢ Memory → length input ≤ MAX_CAPTURE → IsCapture input s → ⊥
no_capture_at_fault input f s h n le c = no_capture input f.kind f.offset s h n le c
