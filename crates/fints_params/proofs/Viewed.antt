-- What is read of the views of a capture.
use Rattle.std.proofs.Common.{◌≡◌, ℕ, ◌<◌, List, [], ◌∷◌, ◌++◌, length, map, get_or, refl, ap, ◌∙◌, sym, subst, arith, append_assoc, inl, inr}
use Rattle.std.proofs.lemmas.List.{map-append, length-append, length-map, get_or-map}
use Rattle.fints_syntax.specs.declared.capture.Placed.{Placed}
use Rattle.fints_syntax_segments.specs.Spelling.{Spelled}
use Rattle.fints_syntax_segments.specs.declared.item.OwnedSegment.{OwnedSegment}
use Rattle.fints_syntax.specs.Owned.{segment_of, segments_of}
use Rattle.fints_params.specs.declared.fault.ParamFault.{ParamFault}
use Rattle.fints_params.specs.Opened.{OpensTo, OpenTo}
use Rattle.fints_params.specs.Refused.{Rule, NoneRefused, IsFirstRefused, IsRefusedIn, IsRefusedOf, values_in}
use Rattle.fints_params.specs.Captures.{IsParamFault}
use Rattle.fints_params.specs.Parameters.{fault_after}
use Rattle.fints_params.specs.Steps.{ReadsNext, StopsNext, ReadsViews}
use Rattle.fints_params.proofs.Lists.{two_lists}
use Rattle.fints_params.proofs.Refusing.{none_front, open_more}

pub values_more : (xs ys : List Placed) → values_in (xs ++ ys) ≡ values_in xs ++ values_in ys
values_more xs ys = ap segments_of (map-append (λ p. p.segment) xs ys) ∙ map-append segment_of (map (λ p. p.segment) xs) (map (λ p. p.segment) ys)

-- one more view is opened
pub open_view : (views : List Placed) (segments : List OwnedSegment) (view : Placed)
    (mine : List OwnedSegment) → OpenTo (values_in views) segments → OpensTo (segment_of view.segment) mine
    → OpenTo (values_in (views ++ view ∷ [])) (segments ++ mine)
open_view views segments view mine h o =
    subst (λ (ss : List OwnedSegment). OpenTo ss (segments ++ mine)) (sym (values_more views (view ∷ [])))
    (open_more (values_in views) segments (segment_of view.segment) mine h o)

pub views_none : {S : Type 0} (Good : List OwnedSegment → S → Type 0) (a : S) → Good [] a
    → ReadsViews Good [] a
views_none Good a g = ([], refl, g)

-- one more view, which is read
pub views_push : {S : Type 0} (Good : List OwnedSegment → S → Type 0) (a b : S) (views : List Placed)
    (view : Placed) → ReadsViews Good views a → ReadsNext Good a b view
    → ReadsViews Good (views ++ view ∷ []) b
views_push Good a b views view (seen, opened, g) (mine, own, k) = (seen ++ mine, open_view views seen view mine opened own, k seen g)

-- one that stops the reader
pub views_stopped : {S : Type 0} (rule : Rule) (Good : List OwnedSegment → S → Type 0) (a : S)
    (views : List Placed) (view : Placed) (f : ParamFault)
    → ((seen : List OwnedSegment) → Good seen a → NoneRefused rule seen)
    → ReadsViews Good views a → StopsNext rule Good a view f → IsRefusedIn rule (views ++ view ∷ []) f
views_stopped rule Good a views view f none (seen, opened, g) k =
    record { front = views; at = view; back = []; split = refl; seen = seen; opened = opened; none = none seen g; refused = k seen g }

-- one more after the first refusal
pub views_stay : (rule : Rule) (views : List Placed) (view : Placed) (f : ParamFault)
    → IsRefusedIn rule views f → IsRefusedIn rule (views ++ view ∷ []) f
views_stay rule views view f r =
    record {
      front = r.front;
      at = r.at;
      back = r.back ++ view ∷ [];
      split = ap (λ (ps : List Placed). ps ++ view ∷ []) r.split ∙ append_assoc r.front (r.at ∷ r.back) (view ∷ []);
      seen = r.seen;
      opened = r.opened;
      none = r.none;
      refused = r.refused;
    }

-- the segment of the view at i
pub segment_at : (views : List (List (List Spelled))) (i : ℕ) (view : List (List Spelled)) (s : OwnedSegment)
    → i < length views → view ≡ get_or views i view → s ≡ segment_of view
    → (i < length (segments_of views)) × (s ≡ get_or (segments_of views) i s)
segment_at views i view s lt e is =
    let size : length (map segment_of views) ≡ length views = length-map views segment_of in
    (omega (arith, size), is ∙ ap segment_of e ∙ sym (get_or-map segment_of views i view s lt))

-- what is refused as the capture is read is its first refusal
pub param_fault : (capture : List ℕ) (f : ParamFault) → IsRefusedOf fault_after capture f
    → IsParamFault capture f
param_fault capture f h = inl h

-- ---- the place of what is refused

-- the first of all segments that is refused is one of these, or a part of what one of these means
pub refused_among : (rule : Rule) (front placed : List Placed) (seen segments : List OwnedSegment)
    (f : ParamFault) → OpenTo (values_in front) seen → OpenTo (values_in placed) segments
    → IsFirstRefused rule seen segments f
    → IsRefusedIn rule (front ++ placed) f
refused_among rule front [] seen segments f h k r = absurd (omega (arith, ap length (sym k ∙ r.split), length-append r.before (r.at ∷ r.after)))
refused_among rule front (p ∷ ps) seen segments f h (mine, more, own, rest, e) r =
    elim (two_lists mine more r.before r.after r.at (sym e ∙ r.split)) [
      | inl w ↦ record {
        front = front;
        at = p;
        back = ps;
        split = refl;
        seen = seen;
        opened = h;
        none = none_front rule seen r.before r.none;
        refused = inl (mine, own, record { before = r.before; at = r.at; after = w.0; split = w.1; none = r.none; fault = r.fault });
      }
      | inr w ↦ let same : seen ++ r.before ≡ (seen ++ mine) ++ w.0 = ap (λ (xs : List OwnedSegment). seen ++ xs) w.1 ∙ sym (append_assoc seen mine w.0) in
          let later : IsFirstRefused rule (seen ++ mine) more f =
          record {
            before = w.0;
            at = r.at;
            after = r.after;
            split = w.2;
            none = subst (NoneRefused rule) same r.none;
            fault = ap (λ (xs : List OwnedSegment). rule xs r.at) (sym same) ∙ r.fault;
          } in
          subst (λ (qs : List Placed). IsRefusedIn rule qs f) (append_assoc front (p ∷ []) ps)
          (refused_among rule (front ++ p ∷ []) ps (seen ++ mine) more f
          (open_view front seen p mine h own) rest later)
    ]
