-- Each segment ends in a `'`.
use Rattle.std.proofs.Common.{◌≡◌, ℕ, suc, ◌+◌, ◌<◌, ◌≤◌, List, [], ◌∷◌, ◌++◌, length, refl, ap, ◌∙◌, sym, arith, inl, inr, append_assoc}
use Rattle.std.specs.List.{AllByRecursion, count_by, flat_map}
use Rattle.std.proofs.lemmas.Bool.{cases_lt}
use Rattle.std.proofs.lemmas.List.{append-nil, length-append}
use Rattle.std.proofs.lemmas.List.Sums.{sum_by-append}
use Rattle.fints_syntax_segments.specs.Spelling.{spelled_bytes}
use Rattle.fints_syntax_segments.specs.Segment.{Token, token_bytes, tokens_bytes, segment_tokens, segment_bytes}
use Rattle.fints_syntax.specs.Capture.{Piece, piece_bytes, IsPiece, placed_from}
use Rattle.fints_syntax.specs.Streams.{is_quote, IsRest, SplitsInto}
use Rattle.fints_syntax.specs.declared.capture.Placed.{Placed}
use Rattle.fints_syntax.proofs.Tokens.{IsClosed, closed-segment}
use Rattle.fints_syntax.proofs.OneFault.{Ends}
use Rattle.fints_syntax.proofs.Cuts.{rest_ends}

abbrev quotes : List ℕ → ℕ
quotes bytes = count_by is_quote bytes

quotes_more : (xs ys : List ℕ) → quotes (xs ++ ys) ≡ quotes xs + quotes ys
quotes_more xs ys = sum_by-append _ xs ys

tokens_last : (ts : List Token) → IsClosed ts → (front : List ℕ) × (tokens_bytes ts ≡ front ++ 39 ∷ [])
tokens_last [] h = elim h [ ]
tokens_last (t ∷ []) h = (spelled_bytes t.item, append-nil (token_bytes t) ∙ ap (λ (a : ℕ). spelled_bytes t.item ++ a ∷ []) h.1)
tokens_last (t ∷ u ∷ us) h =
    let r = tokens_last (u ∷ us) h.1 in
    (token_bytes t ++ r.0, ap (λ (xs : List ℕ). token_bytes t ++ xs) r.1 ∙ sym (append_assoc (token_bytes t) r.0 (39 ∷ [])))

piece_last : (p : Piece) → IsPiece p → (front : List ℕ) × (piece_bytes p ≡ front ++ 39 ∷ [])
piece_last p h =
    let f = h.segment.framed in
    let r = tokens_last (segment_tokens p.elements) (closed-segment p.elements f.some f.nonempty f.spelled) in
    (p.gap ++ r.0, ap (λ (xs : List ℕ). p.gap ++ xs) r.1 ∙ sym (append_assoc p.gap r.0 (39 ∷ [])))

pieces_quotes : (ps : List Piece) → AllByRecursion IsPiece ps → length ps ≤ quotes (flat_map piece_bytes ps)
pieces_quotes [] h = omega arith
pieces_quotes (p ∷ ps) h =
    let r = piece_last p h.0 in
    omega (arith, ap quotes r.1, quotes_more r.0 (39 ∷ []), quotes_more (piece_bytes p) (flat_map piece_bytes ps), pieces_quotes ps h.1)

-- the longer of two fronts
over : (xs ys front zs : List ℕ) → xs ++ ys ≡ front ++ zs → length xs ≤ length front
    → (mid : List ℕ) × (front ≡ xs ++ mid) × (ys ≡ mid ++ zs)
over [] ys front zs e le = (front, refl, e)
over (x ∷ xs) ys [] zs e le = absurd (omega (arith, le))
over (x ∷ xs) ys (f ∷ fs) zs e le =
    let head : x ≡ f = cc in
    let tail : xs ++ ys ≡ fs ++ zs = cc in
    let r = over xs ys fs zs tail (omega (arith, le)) in
    (r.0, ap (λ (l : List ℕ). f ∷ l) r.1 ∙ ap (λ (b : ℕ). b ∷ (xs ++ r.0)) (sym head), r.2)

after_rest : (rest more : List ℕ) (p : Piece) (ps : List Piece) (left tail : List ℕ)
    → tail ≡ flat_map piece_bytes ps ++ left → AllByRecursion IsPiece (p ∷ ps)
    → rest ++ more ≡ piece_bytes p ++ tail → length rest < length (piece_bytes p)
    → length (p ∷ ps) ≤ quotes more
after_rest rest more p ps left tail is each whole lt =
    let r = piece_last p each.0 in
    let split : rest ++ more ≡ r.0 ++ 39 ∷ tail = whole ∙ ap (λ (xs : List ℕ). xs ++ tail) r.1 ∙ append_assoc r.0 (39 ∷ []) tail in
    let m = over rest more r.0 (39 ∷ tail) split (omega (arith, lt, ap length r.1, length-append r.0 (39 ∷ []))) in
    omega (
      arith,
      ap quotes m.2,
      quotes_more m.0 (39 ∷ tail),
      quotes_more (39 ∷ []) tail,
      ap quotes is,
      quotes_more (flat_map piece_bytes ps) left,
      pieces_quotes ps each.1,
    )

few_pieces : (rest more : List ℕ) (ps : List Piece) (left : List ℕ) → Ends rest → AllByRecursion IsPiece ps
    → rest ++ more ≡ flat_map piece_bytes ps ++ left → length ps ≤ quotes more
few_pieces rest more [] left ends each e = omega arith
few_pieces rest more (p ∷ ps) left ends each e =
    let tail = flat_map piece_bytes ps ++ left in
    let whole : rest ++ more ≡ piece_bytes p ++ tail = e ∙ append_assoc (piece_bytes p) (flat_map piece_bytes ps) left in
    elim (cases_lt (length rest) (length (piece_bytes p))) [
      | inl lt ↦ after_rest rest more p ps left tail refl each whole lt
      | inr le ↦
          let r = over (piece_bytes p) tail rest more (sym whole) le in
          absurd (ends p.gap p.elements r.0 each.0.gap each.0.segment (sym (append_assoc p.gap (segment_bytes p.elements) r.0) ∙ sym r.1))
    ]

placed_count : (at : ℕ) (ps : List Piece) → length (placed_from at ps) ≡ length ps
placed_count at [] = refl
placed_count at (p ∷ ps) = ap suc (placed_count (at + length (piece_bytes p)) ps)

pub few_segments : (rest more : List ℕ) (placed : List Placed) (left : List ℕ) → IsRest rest
    → SplitsInto (rest ++ more) placed left → length placed ≤ count_by is_quote more
few_segments rest more placed left r s =
    omega (
      arith,
      few_pieces rest more s.reads.pieces left (rest_ends rest r) s.reads.each s.reads.text,
      ap length s.reads.placed_are,
      placed_count 0 s.reads.pieces,
    )
