-- What a piece gives to a feeder, and why it is refused.
use Rattle.std.proofs.Common.{◌≡◌, ℕ, ◌+◌, ◌-◌, ◌<◌, ◌≤◌, List, [], ◌∷◌, ◌++◌, length, map, take, drop, refl, ap, ◌∙◌, sym, subst, arith, inl, inr, true, false, Option, Some, None}
use Rattle.std.specs.List.{AllByRecursion, count_by}
use Rattle.std.specs.Option.{is_some, option_map}
use Rattle.std.proofs.lemmas.List.{drop_all, length-drop, length-append, take-append-drop, length-map}
use Rattle.fints_syntax.specs.Buffered.{Buffered, IsFed, IsHalted, IsUnfed, failed_at, rest_at, rest_with, without_whole}
use Rattle.fints_syntax.specs.Capture.{IsBreak}
use Rattle.fints_syntax.specs.Owned.{segment_of}
use Rattle.fints_syntax.specs.Streams.{IsBegun, IsMemory, IsReadTo, PieceFaultAt, moved_by, data_place, is_quote, IsRest, IsReady}
use Rattle.fints_syntax.specs.declared.capture.Placed.{Placed}
use Rattle.fints_syntax.specs.declared.fault.SyntaxFault.{SyntaxFault}
use Rattle.fints_syntax.specs.declared.fault.SyntaxKind.TheVariants.{Incomplete}
use Rattle.fints_syntax_segments.specs.declared.item.OwnedSegment.{OwnedSegment}
use Rattle.fints_syntax.specs.declared.stream.Begun.{Begun}
use Rattle.fints_syntax.specs.declared.stream.ReadTo.{ReadTo}
use Rattle.fints_syntax.specs.declared.capture.TheConstants.{MAX_CAPTURE}
use Rattle.fints_syntax.specs.Feeding.{Fed, IsGiven, IsNotGiven, IsCut, IsUnended}
use Rattle.fints_syntax.proofs.Quotes.{few_segments}
use Rattle.fints_syntax.proofs.Streams.{read_splits}

pub unfailed : (failed : Option ℕ) (r : Option SyntaxFault) → r ≡ option_map failed_at failed
    → ((f : SyntaxFault) → r ≡ Some f → ⊥) → failed ≡ None
unfailed None r e n = refl
unfailed (Some o) r e n = absurd (n (failed_at o) e)

pub nothing_begun : (gap : ℕ) → IsBegun (drop gap [])
nothing_begun gap = let e : drop {A = ℕ} gap [] ≡ [] = drop_all {X = ℕ} gap [] (omega arith) in rw e tt

-- what a feeder shows of a buffer
abbrev pub fed_by : Buffered → List ℕ → Fed
fed_by b places = record { rest = b.bytes; at = b.at; failed = b.failed; places = places }

-- ---- a piece that is taken, where only the rest was kept

rest_is : (old : Buffered) (piece : List ℕ) → old.to.whole ≡ 0 → rest_with old piece ≡ old.bytes ++ piece
rest_is old piece e = ap (λ (n : ℕ). drop n (old.bytes ++ piece)) e

pub read_is : (old : Buffered) (piece : List ℕ) (placed : List Placed) (new : Buffered) → old.to.whole ≡ 0
    → (h : IsFed old piece placed new) → IsReadTo (old.bytes ++ piece) placed h.read
read_is old piece placed new e h = subst (λ (xs : List ℕ). IsReadTo xs placed h.read) (rest_is old piece e) h.is_read

-- what is kept then
pub left_is : (old : Buffered) (piece : List ℕ) (placed : List Placed) (new last : Buffered)
    → old.to.whole ≡ 0 → (h : IsFed old piece placed new) → last ≡ without_whole new
    → last
    ≡ record {
      bytes = drop h.read.whole (old.bytes ++ piece);
      at = old.at + h.read.whole;
      to = record { whole = 0; rest = h.read.rest };
      failed = None;
    }
left_is old piece placed new last e h is =
    let whole : old.to.whole + h.read.whole ≡ h.read.whole = omega (arith, e) in
    is ∙ ap without_whole h.new_is
    ∙ ap
    (λ (n : ℕ).
    record {
      bytes = drop n (old.bytes ++ piece);
      at = old.at + n;
      to = record { whole = 0; rest = h.read.rest };
      failed = None;
    })
    whole

moved_is : (old : Buffered) (placed : List Placed) → old.to.whole ≡ 0
    → moved_by (rest_at old) placed ≡ moved_by old.at placed
moved_is old placed e = ap (λ (n : ℕ). moved_by n placed) (omega (arith, e))

pub given : (old : Buffered) (piece : List ℕ) (placed : List Placed) (new last : Buffered)
    (before places : List ℕ) (segments : List OwnedSegment) → old.to.whole ≡ 0 → IsFed old piece placed new
    → last ≡ without_whole new
    → segments ≡ map (λ p. segment_of p.segment) (moved_by (rest_at old) placed)
    → places ≡ map data_place (moved_by (rest_at old) placed)
    → IsGiven (fed_by old before) piece segments (fed_by last places)
given old piece placed new last before places segments e h is s p =
    let bytes = old.bytes ++ piece in
    let read = read_is old piece placed new e h in
    let made : IsGiven (fed_by old before) piece segments
    (record { rest = drop h.read.whole bytes; at = old.at + h.read.whole; failed = None; places = places })
    =
    record {
      sound = h.sound;
      placed = placed;
      split = read_splits bytes placed h.read read;
      segments_are = s ∙ ap (map (λ p. segment_of p.segment)) (moved_is old placed e);
      places_are = p ∙ ap (map data_place) (moved_is old placed e);
      at_is = omega (arith, read.within, length-drop h.read.whole bytes);
      within = omega (arith, h.within, read.within, length-drop h.read.whole bytes);
      still = refl;
    } in
    subst (λ (b : Buffered). IsGiven (fed_by old before) piece segments (fed_by b places)) (sym (left_is old piece placed new last e h is)) made

-- the rest of a feeder holds no whole segment
rest_of : (rest : List ℕ) (b : Begun) → IsReady rest b → IsBegun (drop b.gap rest) → IsRest rest
rest_of rest b ready unended =
    record {
      gap = take b.gap rest;
      begun = drop b.gap rest;
      breaks = ready.breaks;
      unended = unended;
      text = sym (take-append-drop b.gap rest);
    }

-- each segment that is given ends in the piece
pub few : (rest piece : List ℕ) (b : Begun) (at : ℕ) (placed : List Placed) (r : ReadTo)
    (segments : List OwnedSegment) → IsReady rest b → IsBegun (drop b.gap rest)
    → IsReadTo (rest ++ piece) placed r
    → segments ≡ map (λ p. segment_of p.segment) (moved_by at placed)
    → length segments ≤ count_by is_quote piece
few rest piece b at placed r segments ready unended h is =
    let size : length segments ≡ length placed =
    ap length is ∙ length-map (moved_by at placed) (λ p. segment_of p.segment)
    ∙ length-map placed (λ p. record { start = at + p.start; segment = p.segment }) in
    omega (arith, size, few_segments rest piece placed (drop r.whole (rest ++ piece)) (rest_of rest b ready unended) (read_splits (rest ++ piece) placed r h))

-- ---- a piece that is refused

-- out of memory, where no fault is kept then
unhalted : (failed : Option ℕ) (old : Buffered) (piece : List ℕ) (f : SyntaxFault) (new : Buffered)
    (r : Option SyntaxFault) → failed ≡ None → IsUnfed failed old piece f new
    → r ≡ option_map failed_at new.failed → is_some r ≡ false → IsMemory f × (new ≡ old)
unhalted (Some o) old piece f new r e h is none = absurd cc
unhalted None old piece f new r e (inl h) is none = h
unhalted None old piece f new r e (inr (o, at, p, s)) is none =
    let k : r ≡ Some (failed_at f.offset) = is
    ∙ ap (option_map failed_at) s.failed in let t : is_some r ≡ true = ap is_some k in absurd cc

pub memory : (old : Buffered) (piece : List ℕ) (f : SyntaxFault) (new : Buffered) (r : Option SyntaxFault)
    → old.failed ≡ None → IsUnfed old.failed old piece f new → r ≡ option_map failed_at new.failed
    → is_some r ≡ false → IsMemory f × (new ≡ old)
memory old piece f new r e h is none = unhalted old.failed old piece f new r e h is none

refused_by : (failed : Option ℕ) (old : Buffered) (piece : List ℕ) (f : SyntaxFault) (before : List ℕ)
    (new : Fed) → failed ≡ None → IsMemory f → new ≡ fed_by old before
    → IsNotGiven failed (fed_by old before) piece f new
refused_by (Some o) old piece f before new e m s = absurd cc
refused_by None old piece f before new e m s = inl (m, s)

pub refused : (old : Buffered) (piece : List ℕ) (f : SyntaxFault) (new : Buffered) (before : List ℕ)
    → old.failed ≡ None → IsMemory f → new ≡ old
    → IsNotGiven old.failed (fed_by old before) piece f (fed_by new before)
refused old piece f new before e m s = refused_by old.failed old piece f before (fed_by new before) e m (ap (λ (b : Buffered). fed_by b before) s)

-- the fault's offset, where one is kept then
halted : (failed : Option ℕ) (old : Buffered) (piece : List ℕ) (f : SyntaxFault) (new : Buffered)
    (r : Option SyntaxFault) → failed ≡ None → old.failed ≡ None → IsUnfed failed old piece f new
    → r ≡ option_map failed_at new.failed → is_some r ≡ true
    → (o : ℕ) × (f.offset ≡ rest_at old + o)
    × PieceFaultAt (MAX_CAPTURE - rest_at old) f.kind o (rest_with old piece) × IsHalted old f.offset new
halted (Some o) old piece f new r e n h is some = absurd cc
halted None old piece f new r e n (inl (m, same)) is some =
    let k : r ≡ None = is ∙ ap (λ (b : Buffered). option_map failed_at b.failed) same
    ∙ ap (option_map failed_at) n in let t : is_some r ≡ false = ap is_some k in absurd cc
halted None old piece f new r e n (inr h) is some = h

pub fault : (old : Buffered) (piece : List ℕ) (f : SyntaxFault) (new : Buffered) (r : Option SyntaxFault)
    → old.failed ≡ None → IsUnfed old.failed old piece f new → r ≡ option_map failed_at new.failed
    → is_some r ≡ true
    → (o : ℕ) × (f.offset ≡ rest_at old + o)
    × PieceFaultAt (MAX_CAPTURE - rest_at old) f.kind o (rest_with old piece) × IsHalted old f.offset new
fault old piece f new r e h is some = halted old.failed old piece f new r e e h is some

stopped_by : (failed : Option ℕ) (old : Buffered) (piece : List ℕ) (f : SyntaxFault) (new : Buffered)
    (before places : List ℕ) (o : ℕ) → failed ≡ None → old.to.whole ≡ 0 → f.offset ≡ rest_at old + o
    → PieceFaultAt (MAX_CAPTURE - rest_at old) f.kind o (rest_with old piece) → IsHalted old f.offset new
    → places ≡ []
    → IsNotGiven failed (fed_by old before) piece f (fed_by new places)
stopped_by (Some x) old piece f new before places o e w at p h empty = absurd cc
stopped_by None old piece f new before places o e w at p h empty =
    let here : old.at + old.to.whole ≡ old.at = omega (arith, w) in
    let own : PieceFaultAt (MAX_CAPTURE - old.at) f.kind o (old.bytes ++ piece) =
    subst (λ (xs : List ℕ). PieceFaultAt (MAX_CAPTURE - old.at) f.kind o xs) (rest_is old piece w)
    (subst (λ (n : ℕ). PieceFaultAt (MAX_CAPTURE - n) f.kind o (rest_with old piece)) here p) in
    inr (o, omega (arith, at, w), own, λ i. record { rest = h.bytes i; at = h.at i; failed = h.failed i; places = empty i })

pub stops : (old : Buffered) (piece : List ℕ) (f : SyntaxFault) (new : Buffered) (before places : List ℕ)
    (r : Option SyntaxFault) → old.failed ≡ None → old.to.whole ≡ 0 → IsUnfed old.failed old piece f new
    → r ≡ option_map failed_at new.failed → is_some r ≡ true → places ≡ []
    → IsNotGiven old.failed (fed_by old before) piece f (fed_by new places)
stops old piece f new before places r e w h is some empty =
    let (o, at, p, s) = fault old piece f new r e h is some in stopped_by old.failed old piece f new before
    places o e w at p s empty

-- ---- the end

cut_from : (fed : Fed) (f : SyntaxFault) (gap begun : List ℕ) → f.kind ≡ Incomplete
    → f.offset ≡ fed.at + length gap → fed.rest ≡ gap ++ begun → AllByRecursion IsBreak gap → IsBegun begun
    → 0 < length begun → IsCut fed f
cut_from fed f gap [] k o text breaks u some = absurd (omega (arith, some))
cut_from fed f gap (b ∷ bs) k o text breaks u some =
    record {
      kind = k;
      gap = gap;
      first = b;
      more = bs;
      breaks = breaks;
      no_break = u.0;
      text = text;
      offset = o;
    }

pub unended : (failed : Option ℕ) (fed : Fed) (f : SyntaxFault) (gap : ℕ) → failed ≡ None
    → f.kind ≡ Incomplete → f.offset ≡ fed.at + gap → gap < length fed.rest
    → AllByRecursion IsBreak (take gap fed.rest) → IsBegun (drop gap fed.rest) → IsUnended failed fed f
unended (Some o) fed f gap e k at lt breaks u = absurd cc
unended None fed f gap e k at lt breaks u =
    let size : length (take gap fed.rest) ≡ gap =
    omega (
      arith,
      ap length (take-append-drop gap fed.rest),
      length-append (take gap fed.rest) (drop gap fed.rest),
      length-drop gap fed.rest,
    ) in
    cut_from fed f (take gap fed.rest) (drop gap fed.rest) k (at ∙ ap (λ (n : ℕ). fed.at + n) (sym size))
    (sym (take-append-drop gap fed.rest)) breaks u (omega (arith, length-drop gap fed.rest))
