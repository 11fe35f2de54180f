-- What a capture says takes no more space than its bytes.
use Rattle.std.proofs.Common.{◌≡◌, ℕ, ◌+◌, ◌<◌, ◌≤◌, ◌^◌, List, [], ◌∷◌, ◌++◌, length, map, refl, ap, ◌∙◌, sym, subst, arith, inl, inr, Option, Some, None}
use Rattle.std.specs.List.{AllByRecursion, flat_map}
use Rattle.std.proofs.lemmas.List.{length-append}
use Rattle.fints_syntax_segments.specs.Spelling.{Spelled}
use Rattle.fints_syntax_segments.specs.Segment.{segment_bytes}
use Rattle.fints_syntax.specs.Capture.{Piece, piece_bytes, IsPiece, placed_from, IsPlacedCapture}
use Rattle.fints_syntax.specs.Places.{start_of}
use Rattle.fints_syntax.specs.PlaceLaws.{start_within}
use Rattle.fints_syntax.specs.Owned.{segment_of}
use Rattle.fints_syntax.specs.declared.capture.Placed.{Placed}
use Rattle.fints_syntax_segments.specs.declared.item.OwnedSegment.{OwnedSegment}
use Rattle.fints_params.specs.Sealed.{data_of, data_len}
use Rattle.fints_params.specs.Parameters.{skipped_in}
use Rattle.fints_syntax.specs.Streams.{data_place}
use Rattle.fints_params.specs.Opened.{ReadsAs, OpensTo, OpenTo, AreSegmentsOf}
use Rattle.fints_params.specs.Refused.{values_in}
use Rattle.fints_params.specs.Steps.{EndsWithin}
use Rattle.fints_params.proofs.RowsSoFar.{skipped_more}
use Rattle.fints_syntax.specs.declared.capture.TheConstants.{MAX_CAPTURE}
use Rattle.fints_params.proofs.Sizes.{data_within, skipped_within}

within_from : (at : ℕ) (ps : List Piece) → at + length (flat_map piece_bytes ps) ≤ MAX_CAPTURE
    → AllByRecursion EndsWithin (placed_from at ps)
within_from at [] h = tt
within_from at (p ∷ ps) h =
    let one = length-append (piece_bytes p) (flat_map piece_bytes ps) in
    let two = length-append p.gap (segment_bytes p.elements) in
    (omega (arith, one, two), within_from (at + length (piece_bytes p)) ps (omega (arith, one)))

-- the segments of a capture end in it
pub all_within : (capture : List ℕ) (views : List Placed) → length capture ≤ MAX_CAPTURE
    → IsPlacedCapture capture views → AllByRecursion EndsWithin views
all_within capture views le (tail, breaks, r) =
    subst (λ (vs : List Placed). AllByRecursion EndsWithin vs) r.placed_are
    (within_from 0 r.pieces
    (omega (arith, ap length r.text, length-append (flat_map piece_bytes r.pieces) tail)))

-- ---- what is skipped

trees_within : (at : ℕ) (ps : List Piece) → AllByRecursion IsPiece ps
    → skipped_in (map segment_of (map (λ p. p.segment) (placed_from at ps))) ≤ length
    (flat_map piece_bytes ps)
trees_within at [] each = omega arith
trees_within at (p ∷ ps) each =
    let rest = map segment_of (map (λ p. p.segment) (placed_from (at + length (piece_bytes p)) ps)) in
    omega (
      arith,
      skipped_more (segment_of p.elements ∷ []) rest,
      skipped_within p.elements (segment_of p.elements) each.0.segment refl,
      trees_within (at + length (piece_bytes p)) ps each.1,
      length-append (piece_bytes p) (flat_map piece_bytes ps),
      length-append p.gap (segment_bytes p.elements),
    )

reads_within : (bytes : List ℕ) (segments : List OwnedSegment) → ReadsAs bytes segments
    → skipped_in segments ≤ length bytes
reads_within bytes segments (trees, (placed, (tail, breaks, r), same), is) =
    let trees_are : map (λ p. p.segment) (placed_from 0 r.pieces) ≡ trees = ap (λ (vs : List Placed). map (λ p. p.segment) vs) r.placed_are ∙ same in
    let segments_are : segments ≡ map segment_of (map (λ p. p.segment) (placed_from 0 r.pieces)) = is ∙ ap (map segment_of) (sym trees_are) in
    omega (arith, trees_within 0 r.pieces r.each, ap skipped_in segments_are, ap length r.text, length-append (flat_map piece_bytes r.pieces) tail)

same_skips : (xs ys : List OwnedSegment) → xs ≡ ys → skipped_in xs ≡ skipped_in ys
same_skips xs ys e = ap skipped_in e

one_skips : (q : Piece) (s : OwnedSegment) (mine : List OwnedSegment) → IsPiece q → s ≡ segment_of q.elements
    → OpensTo s mine → skipped_in mine ≤ length (segment_bytes q.elements)
one_skips q s mine piece own (inl (e, h)) = omega (arith, same_skips mine (s ∷ []) h, skipped_within q.elements s piece.segment own)
one_skips q s mine piece own (inr (e, (bytes, d, r))) = omega (arith, reads_within bytes mine r, data_within q.elements s bytes own d)

all_skips : (at : ℕ) (qs : List Piece) (segments : List OwnedSegment) → AllByRecursion IsPiece qs
    → OpenTo (values_in (placed_from at qs)) segments → skipped_in segments ≤ length (flat_map piece_bytes qs)
all_skips at [] segments each h = omega (arith, same_skips segments [] h)
all_skips at (q ∷ qs) segments each (mine, more, own, rest, e) =
    omega (
      arith,
      same_skips segments (mine ++ more) e,
      skipped_more mine more,
      one_skips q (segment_of q.elements) mine each.0 refl own,
      all_skips (at + length (piece_bytes q)) qs more each.1 rest,
      length-append (piece_bytes q) (flat_map piece_bytes qs),
      length-append q.gap (segment_bytes q.elements),
    )

opened_skips : (capture : List ℕ) (outer segments : List OwnedSegment) → ReadsAs capture outer
    → OpenTo outer segments → skipped_in segments ≤ length capture
opened_skips capture outer segments (trees, (placed, (tail, breaks, r), same), is) h =
    let trees_are : map (λ p. p.segment) (placed_from 0 r.pieces) ≡ trees = ap (λ (vs : List Placed). map (λ p. p.segment) vs) r.placed_are ∙ same in
    let outer_is : outer ≡ values_in (placed_from 0 r.pieces) = is ∙ ap (map segment_of) (sym trees_are) in
    let all = subst (λ (ss : List OwnedSegment). OpenTo ss segments) outer_is h in
    omega (arith, all_skips 0 r.pieces segments r.each all, ap length r.text, length-append (flat_map piece_bytes r.pieces) tail)

-- the number of things skipped fits
pub can_count : (capture : List ℕ) (segments : List OwnedSegment) → AreSegmentsOf capture segments
    → skipped_in segments < 2 ^ 32
can_count capture segments h = omega (arith, opened_skips capture h.outer segments h.reads h.opened, h.short)

-- ---- places

pub place_fits : (view : Placed) (o : ℕ) → EndsWithin view → start_of view.segment 2 1 ≡ Some o
    → view.start + o ≤ MAX_CAPTURE
place_fits view o h e = omega (arith, start_within view.segment o e)

place_le : (view : Placed) (r : Option ℕ) → start_of view.segment 2 1 ≡ r → EndsWithin view
    → data_place view ≤ MAX_CAPTURE
place_le view None e h = rw e (omega arith)
place_le view (Some o) e h = rw e (place_fits view o h e)

len_le : (es : List (List Spelled)) (s : OwnedSegment) (r : Option (List ℕ)) → data_of s ≡ r
    → s ≡ segment_of es → data_len s ≤ length (segment_bytes es)
len_le es s None e o = rw e (omega arith)
len_le es s (Some bytes) e o = rw e (data_within es s bytes o e)

-- an offset in the data of a segment, counted in the capture, fits
pub placed_fits : (view : Placed) (s : OwnedSegment) (place : ℕ) → EndsWithin view
    → s ≡ segment_of view.segment → place ≡ data_place view → place + data_len s < 2 ^ 64
placed_fits view s place h o e = omega (arith, place_le view (start_of view.segment 2 1) refl h, len_le view.segment s (data_of s) refl o)
