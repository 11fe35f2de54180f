-- What pieces give one after the other.
use Rattle.std.proofs.Common.{◌≡◌, ◌≢◌, ℕ, ◌+◌, ◌-◌, ◌≤◌, List, [], ◌∷◌, ◌++◌, length, map, refl, ap, ◌∙◌, sym, subst, arith, inl, inr, append_assoc, length-append, Option, Some, None}
use Rattle.std.specs.List.{flat_map}
use Rattle.std.proofs.lemmas.List.{append-nil, map-append}
use Rattle.fints_syntax.specs.Capture.{IsPlacedCapture, piece_bytes}
use Rattle.fints_syntax.specs.Laws.{CutFault, CutSegments}
use Rattle.fints_syntax.specs.Owned.{segment_of}
use Rattle.fints_syntax.specs.Streams.{SplitsInto, PieceFaultAt, moved_by, whole_len}
use Rattle.fints_syntax.specs.declared.capture.Placed.{Placed}
use Rattle.fints_syntax.specs.declared.fault.SyntaxFault.{SyntaxFault}
use Rattle.fints_syntax.specs.declared.fault.SyntaxKind.TheVariants.{Memory}
use Rattle.fints_syntax_segments.specs.declared.item.OwnedSegment.{OwnedSegment}
use Rattle.fints_syntax.specs.Feeding.{Fed, IsEnded, IsGiven, IsNotGiven, unfed}
use Rattle.fints_syntax.specs.declared.capture.TheConstants.{MAX_CAPTURE}
use Rattle.fints_syntax.specs.FeedingLaws.{AreGiven, HasGiven}

abbrev values : List Placed → List OwnedSegment
values placed = map (λ p. segment_of p.segment) placed

-- what is left is no longer than the bytes
rest_within : (bytes : List ℕ) (placed : List Placed) (rest : List ℕ) → SplitsInto bytes placed rest
    → length rest ≤ length bytes
rest_within bytes placed rest h = omega (arith, ap length h.reads.text, length-append (flat_map piece_bytes h.reads.pieces) rest)

more_values : (n : ℕ) (before first : List OwnedSegment) (at : ℕ) (p q : List Placed) → at ≡ n
    → before ≡ values p → first ≡ values (moved_by at q) → before ++ first ≡ values (p ++ moved_by n q)
more_values n before first at p q e b f =
    ap (λ (xs : List OwnedSegment). xs ++ first) b
    ∙ ap (λ (xs : List OwnedSegment). values p ++ xs) (f ∙ ap (λ (k : ℕ). values (moved_by k q)) e)
    ∙ sym (map-append (λ p. segment_of p.segment) p (moved_by n q))

one_more : (cut : CutSegments) (stream : List ℕ) (before : List OwnedSegment) (old : Fed) (piece : List ℕ)
    (first : List OwnedSegment) (next : Fed) → HasGiven stream before old → IsGiven old piece first next
    → HasGiven (stream ++ piece) (before ++ first) next
one_more cut stream before old piece first next h g =
    let a = rest_within stream h.placed old.rest h.split in
    let b = rest_within (old.rest ++ piece) g.placed next.rest g.split in
    record {
      placed = h.placed ++ moved_by (whole_len stream old.rest) g.placed;
      split = cut stream piece h.placed g.placed old.rest next.rest h.split g.split;
      segments_are = more_values (whole_len stream old.rest) before first old.at h.placed g.placed h.at_is h.segments_are g.segments_are;
      at_is = omega (arith, a, b, h.at_is, g.at_is, length-append stream piece, length-append old.rest piece);
      within = g.within;
      sound = g.still;
    }

given_on : (cut : CutSegments) (stream : List ℕ) (before : List OwnedSegment) (old : Fed)
    (pieces : List (List ℕ)) (segments : List OwnedSegment) (new : Fed) → HasGiven stream before old
    → AreGiven old pieces segments new
    → HasGiven (stream ++ flat_map (λ p. p) pieces) (before ++ segments) new
given_on cut stream before old [] segments new h (none, same) =
    let all : HasGiven (stream ++ []) (before ++ []) old =
    subst (λ (xs : List ℕ). HasGiven xs (before ++ []) old) (sym (append-nil stream))
    (subst (λ (ss : List OwnedSegment). HasGiven stream ss old) (sym (append-nil before)) h) in
    subst (HasGiven (stream ++ []) (before ++ segments)) (sym same)
    (subst (λ (ss : List OwnedSegment). HasGiven (stream ++ []) (before ++ ss) old) (sym none) all)
given_on cut stream before old (p ∷ ps) segments new h (first, more, next, g, e, rest) =
    let all = given_on cut (stream ++ p) (before ++ first) next ps more new (one_more cut stream before old p first next h g) rest in
    let bytes : (stream ++ p) ++ flat_map (λ p. p) ps ≡ stream ++ (p ++ flat_map (λ p. p) ps) = append_assoc stream p (flat_map (λ p. p) ps) in
    let same : (before ++ first) ++ more ≡ before ++ segments = append_assoc before first more ∙ ap (λ (ss : List OwnedSegment). before ++ ss) (sym e) in
    subst (λ (ss : List OwnedSegment). HasGiven (stream ++ (p ++ flat_map (λ p. p) ps)) ss new) same
    (subst (λ (xs : List ℕ). HasGiven xs ((before ++ first) ++ more) new) bytes all)

nothing_given : HasGiven [] [] unfed
nothing_given = record {
  placed = [];
  split =
      record {
        reads =
            record { pieces = []; each = tt; placed_are = refl; text = refl };
        left = record { gap = []; begun = []; breaks = tt; unended = tt; text = refl };
      };
  segments_are = refl;
  at_is = refl;
  within = omega arith;
  sound = refl;
}

pub any_cutting : (cut : CutSegments) (pieces : List (List ℕ)) (segments : List OwnedSegment) (fed : Fed)
    → AreGiven unfed pieces segments fed → HasGiven (flat_map (λ p. p) pieces) segments fed
any_cutting cut pieces segments fed h = given_on cut [] [] unfed pieces segments fed nothing_given h

fault_in : (cut : CutFault) (failed : Option ℕ) (stream piece : List ℕ) (segments : List OwnedSegment)
    (fed new : Fed) (f : SyntaxFault) → failed ≡ None → HasGiven stream segments fed
    → IsNotGiven failed fed piece f new → f.kind ≢ Memory
    → PieceFaultAt MAX_CAPTURE f.kind f.offset (stream ++ piece)
fault_in cut (Some o) stream piece segments fed new f none h r n = absurd cc
fault_in cut None stream piece segments fed new f none h (inl (m, same)) n = absurd (n (ap (λ (x : SyntaxFault). x.kind) m))
fault_in cut None stream piece segments fed new f none h (inr (o, is, p, s)) n =
    let all = cut stream piece h.placed fed.rest (MAX_CAPTURE - fed.at) o f.kind h.split p in
    let limit : whole_len stream fed.rest + (MAX_CAPTURE - fed.at) ≡ MAX_CAPTURE = omega (arith, h.at_is, h.within) in
    let at : whole_len stream fed.rest + o ≡ f.offset = omega (arith, h.at_is, is) in
    subst (λ (k : ℕ). PieceFaultAt MAX_CAPTURE f.kind k (stream ++ piece)) at
    (subst (λ (k : ℕ). PieceFaultAt k f.kind (whole_len stream fed.rest + o) (stream ++ piece)) limit all)

pub fault_of_stream : (cut : CutFault) (stream piece : List ℕ) (segments : List OwnedSegment) (fed new : Fed)
    (f : SyntaxFault) → HasGiven stream segments fed → IsNotGiven fed.failed fed piece f new → f.kind ≢ Memory
    → PieceFaultAt MAX_CAPTURE f.kind f.offset (stream ++ piece)
fault_of_stream cut stream piece segments fed new f h r n = fault_in cut fed.failed stream piece segments fed new f h.sound h r n

pub ended : (stream : List ℕ) (segments : List OwnedSegment) (fed : Fed) → HasGiven stream segments fed
    → IsEnded fed
    → (placed : List Placed) × IsPlacedCapture stream placed
    × (segments ≡ map (λ p. segment_of p.segment) placed)
ended stream segments fed h e = (h.placed, (fed.rest, e.1, h.split.reads), h.segments_are)
