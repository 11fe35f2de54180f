-- What is written for a segment is read back as only that segment.
use Rattle.std.proofs.Common.{◌≡◌, ℕ, ◌+◌, ◌<◌, List, [], ◌∷◌, ◌++◌, length, get_or, take, drop, refl, ap, ◌∙◌, sym, subst, arith, length-append, Option, Some, unwrap_or}
use Rattle.std.specs.Prelude.{◌↔◌}
use Rattle.std.proofs.lemmas.List.{take_at, take-append-drop, length-take-le, map-append, take_more}
use Rattle.fints_syntax_segments.specs.Spelling.{Spelled}
use Rattle.fints_syntax_segments.specs.Segment.{segment_bytes, values_of, head_of}
use Rattle.fints_syntax.specs.Owned.{no_head, segment_of, segments_of}
use Rattle.fints_syntax_segments.specs.Written.{segment_values, written_tree, written_segment, IsWritable}
use Rattle.fints_syntax.specs.Laws.{BeginsWithText}
use Rattle.fints_syntax_segments.specs.declared.item.OwnedSegment.{OwnedSegment}
use Rattle.fints_syntax_segments.specs.declared.item.Head.{Head}
use Rattle.fints_syntax.proofs.Tokens.{one_segment}
use Rattle.fints_syntax.proofs.WrittenLaws.{values_of-written}
use Rattle.fints_syntax.proofs.HeadLaws.{written_head, written_spelled}

-- a segment of this head
pub owned_is : (es : List (List Spelled)) (s : OwnedSegment) → head_of (values_of es) ≡ Some s.head
    → s.elements ≡ drop 1 (values_of es) → s ≡ segment_of es
owned_is es s h g =
    let head : s.head ≡ unwrap_or (head_of (values_of es)) no_head = ap (λ (o : Option Head). unwrap_or o no_head) (sym h) in
    λ i. record { head = head i; elements = g i }

front : (bytes : List ℕ) (s : OwnedSegment) (len : ℕ) → (h : BeginsWithText bytes s len)
    → bytes ≡ segment_bytes h.elements ++ drop len bytes
front bytes s len h = sym (take-append-drop len bytes) ∙ ap (λ (x : List ℕ). x ++ drop len bytes) h.text

size : (bytes : List ℕ) (s : OwnedSegment) (len : ℕ) → (h : BeginsWithText bytes s len)
    → len ≡ length (segment_bytes h.elements)
size bytes s len h = sym (length-take-le len bytes h.within) ∙ ap length h.text

-- bytes begin with a text of one segment, and that text has one length
pub one_reading : (bytes : List ℕ) (s t : OwnedSegment) (len n : ℕ) → BeginsWithText bytes s len
    → BeginsWithText bytes t n → (s ≡ t) × (len ≡ n)
one_reading bytes s t len n h g =
    let same : h.elements ≡ g.elements =
    one_segment h.elements g.elements (drop len bytes) (drop n bytes) h.segment.framed g.segment.framed
    (sym (front bytes s len h) ∙ front bytes t n g) in (
      h.values ∙ ap segment_of same ∙ sym g.values,
      size bytes s len h
          ∙ ap (λ (es : List (List Spelled)). length (segment_bytes es)) same ∙ sym (size bytes t n g),
    )

written_front : (s : OwnedSegment) (rest : List ℕ) → IsWritable s
    → BeginsWithText (written_segment s ++ rest) s (length (written_segment s))
written_front s rest h = record {
  elements = written_tree s;
  segment = written_spelled s h;
  values = owned_is (written_tree s) s (written_head s h) (sym (ap (drop 1) (values_of-written (segment_values s))));
  text = take_at (written_segment s) rest (length (written_segment s)) refl;
  within = omega (arith, length-append (written_segment s) rest);
}

-- what is written for a segment is read back as only that segment
pub read_back : (s t : OwnedSegment) (rest : List ℕ) (len : ℕ) → IsWritable s
    → BeginsWithText (written_segment s ++ rest) t len ↔ ((t ≡ s) × (len ≡ length (written_segment s)))
read_back s t rest len h =
    let bytes = written_segment s ++ rest in (
      λ g.
          one_reading bytes t s len (length (written_segment s)) g (written_front s rest h),
      λ e.
          subst (λ (n : ℕ). BeginsWithText bytes t n) (sym e.1)
          (subst (λ (u : OwnedSegment). BeginsWithText bytes u (length (written_segment s))) (sym e.0)
          (written_front s rest h)),
    )

-- one more segment by its values
pub segments-more : (views : List (List (List Spelled))) (i : ℕ) (tree : List (List Spelled))
    (s : OwnedSegment) (old new : List OwnedSegment) → i < length views → tree ≡ get_or views i tree
    → old ≡ segments_of (take i views) → s ≡ segment_of tree
    → new ≡ old ++ s ∷ [] → new ≡ segments_of (take (i + 1) views)
segments-more views i tree s old new lt at so_far h is =
    is ∙ ap (λ (l : List OwnedSegment). l ++ s ∷ []) so_far
    ∙ ap (λ (x : OwnedSegment). segments_of (take i views) ++ x ∷ []) h
    ∙ sym (map-append segment_of (take i views) (tree ∷ []))
    ∙ ap segments_of (ap (λ (t : List (List Spelled)). take i views ++ t ∷ []) at ∙ sym (take_more views i tree lt))
