-- The codes of feedback, as far as they are read.
use Rattle.std.proofs.Common.{◌≡◌, ℕ, ◌+◌, ◌<◌, Bool, true, false, not, List, [], ◌∷◌, ◌++◌, length, take, get_or, refl, ap, ◌∙◌, sym, arith, append_assoc, inl, inr, below_more, Option, Some, None}
use Rattle.std.specs.Prelude.{position}
use Rattle.std.specs.List.{filter_map, cons_option, position_or_len, filter, flat_map}
use Rattle.std.proofs.lemmas.Bool.{lt-ltb, le-ltb}
use Rattle.std.proofs.lemmas.List.{append-nil, take_more, take_all}
use Rattle.std.proofs.lemmas.List.Elements.{filter_map-append, filter-append}
use Rattle.std.proofs.lemmas.List.Concat.{flat_map-append}
use Rattle.std.proofs.lemmas.List.Sums.{prefix_len_is}
use Rattle.fints_syntax_segments.specs.declared.item.OwnedSegment.{OwnedSegment}
use Rattle.fints_params.specs.declared.fault.ParamFault.{ParamFault}
use Rattle.fints_params.specs.declared.fault.ParamFault.TheVariants.{Memory, Syntax, BadElement, TwoBankParameters, NoBankParameters, NoPinParameters}
use Rattle.fints_params.specs.Feedback.{code_in, is_bad_code, is_feedback, codes_of, codes_in, bad_code, feedback_fault}
use Rattle.fints_params.specs.declared.feedback.FoundCodes.{FoundCodes}
use Rattle.fints_params.specs.Glancing.{IsGlanced}
use Rattle.fints_params.specs.Sealed.{is_sealed}
use Rattle.fints_params.specs.Faults.{IsBad, IsMemoryOr}
use Rattle.fints_params.specs.Steps.{Continues, StopsIn}
use Rattle.fints_params.specs.Taken.{CodesSoFar}
use Rattle.fints_params.proofs.Refusing.{none_push, refused_here}

pub record Left (vs : List (List ℕ)) (i : ℕ) (codes old : List ℕ) : Type 0 where
  pub good : (k : ℕ) → k < i → is_bad_code (get_or vs k []) ≡ false
  pub codes_are : codes ≡ old ++ filter_map code_in (take i vs)

pub left_start : (vs : List (List ℕ)) (old : List ℕ) → Left vs 0 old old
left_start vs old = record { good = λ k lt. absurd (omega arith); codes_are = sym (append-nil old) }

one_more : (vs : List (List ℕ)) (i : ℕ) → i < length vs
    → filter_map code_in (take (i + 1) vs) ≡ filter_map code_in (take i vs) ++ cons_option
    (code_in (get_or vs i [])) []
one_more vs i lt = ap (λ (x : List (List ℕ)). filter_map code_in x) (take_more vs i [] lt) ∙ filter_map-append code_in (take i vs) (get_or vs i [] ∷ [])

good_more : (vs : List (List ℕ)) (i : ℕ) → ((k : ℕ) → k < i → is_bad_code (get_or vs k []) ≡ false)
    → is_bad_code (get_or vs i []) ≡ false → (k : ℕ) → k < i + 1 → is_bad_code (get_or vs k []) ≡ false
good_more vs i h e = below_more _ _ h e

empty_good : (v : List ℕ) → length v ≡ 0 → is_bad_code v ≡ false
empty_good [] e = refl
empty_good (b ∷ bs) e = absurd (omega arith)

empty_none : (v : List ℕ) → length v ≡ 0 → code_in v ≡ None
empty_none [] e = refl
empty_none (b ∷ bs) e = absurd (omega arith)

code_good : (v : List ℕ) (n : ℕ) → 0 < length v → code_in v ≡ Some n → is_bad_code v ≡ false
code_good [] n lt e = absurd (omega arith)
code_good (b ∷ bs) n lt e = rw e refl

none_bad : (v : List ℕ) → 0 < length v → code_in v ≡ None → is_bad_code v ≡ true
none_bad [] lt e = absurd (omega arith)
none_bad (b ∷ bs) lt e = rw e refl

pub left_skip : (vs : List (List ℕ)) (i : ℕ) (codes old v : List ℕ) → Left vs i codes old → i < length vs
    → get_or vs i [] ≡ v → length v ≡ 0 → Left vs (i + 1) codes old
left_skip vs i codes old v l lt e z =
    let c : code_in (get_or vs i []) ≡ None = ap code_in e ∙ empty_none v z in
    record {
      good = good_more vs i l.good (ap is_bad_code e ∙ empty_good v z);
      codes_are =
          l.codes_are
          ∙ ap (λ (x : List ℕ). old ++ x)
          (sym (append-nil (filter_map code_in (take i vs)))
          ∙ ap (λ (o : Option ℕ). filter_map code_in (take i vs) ++ cons_option o []) (sym c)
          ∙ sym (one_more vs i lt));
    }

pub left_more : (vs : List (List ℕ)) (i : ℕ) (codes old v : List ℕ) (n : ℕ) → Left vs i codes old
    → i < length vs → get_or vs i [] ≡ v → 0 < length v → code_in v ≡ Some n
    → Left vs (i + 1) (codes ++ n ∷ []) old
left_more vs i codes old v n l lt e z h =
    let c : code_in (get_or vs i []) ≡ Some n = ap code_in e ∙ h in
    record {
      good = good_more vs i l.good (ap is_bad_code e ∙ code_good v n z h);
      codes_are = ap (λ (x : List ℕ). x ++ n ∷ []) l.codes_are ∙ append_assoc old (filter_map code_in (take i vs)) (n ∷ [])
          ∙ ap (λ (x : List ℕ). old ++ x) (ap (λ (o : Option ℕ). filter_map code_in (take i vs) ++ cons_option o []) (sym c) ∙ sym (one_more vs i lt));
    }

not_true : (b : Bool) → b ≡ true → not b ≡ false
not_true b e = rw e refl

not_false : (b : Bool) → b ≡ false → not b ≡ true
not_false b e = rw e refl

pub left_bad : (vs : List (List ℕ)) (i : ℕ) (codes old v : List ℕ) → Left vs i codes old → i < length vs
    → get_or vs i [] ≡ v → 0 < length v → code_in v ≡ None → position is_bad_code vs ≡ Some i
left_bad vs i codes old v l lt e z h =
    let bad : is_bad_code (get_or vs i []) ≡ true = ap is_bad_code e ∙ none_bad v z h in
    let at : position_or_len is_bad_code vs ≡ i =
    prefix_len_is (λ x. not (is_bad_code x)) vs i [] (omega arith)
    (λ k less. not_false (is_bad_code (get_or vs k [])) (l.good k less))
    (λ less. not_true (is_bad_code (get_or vs i [])) bad) in
    rw (at, lt-ltb i (length vs) lt) refl

pub left_end : (vs : List (List ℕ)) (i : ℕ) (codes old : List ℕ) → Left vs i codes old → length vs ≡ i
    → (position is_bad_code vs ≡ None) × (codes ≡ old ++ filter_map code_in vs)
left_end vs i codes old l e =
    let at : position_or_len is_bad_code vs ≡ length vs =
    prefix_len_is (λ x. not (is_bad_code x)) vs (length vs) [] (omega arith)
    (λ k less. not_false (is_bad_code (get_or vs k [])) (l.good k (omega arith)))
    (λ less. absurd (omega arith)) in (
      rw (at, le-ltb (length vs) (length vs) (omega arith)) refl,
      l.codes_are
          ∙ ap (λ (x : List (List ℕ)). old ++ filter_map code_in x) (take_all i vs (omega arith)),
    )

-- ---- after the segments that were seen

pub codes_more : (s : OwnedSegment) (old new : List ℕ) → bad_code s ≡ None → new ≡ old ++ codes_in (s ∷ [])
    → Continues CodesSoFar old new (s ∷ [])
codes_more s old new fine e = λ seen h.
    record {
      none = none_push feedback_fault seen s h.none (rw fine refl);
      numbers_are = e ∙ ap (λ (x : List ℕ). x ++ codes_in (s ∷ [])) h.numbers_are
          ∙ sym (ap (λ xs. flat_map codes_of xs) (filter-append is_feedback seen (s ∷ []))
          ∙ flat_map-append codes_of (filter is_feedback seen) (filter is_feedback (s ∷ [])));
    }

-- a segment that is no feedback has no codes
pub codes_unread : (s : OwnedSegment) (old : List ℕ) → is_feedback s ≡ false
    → Continues CodesSoFar old old (s ∷ [])
codes_unread s old e =
    let none : codes_in (s ∷ []) ≡ [] = rw e refl in
    codes_more s old old (rw e refl) (sym (append-nil old) ∙ ap (λ xs. old ++ xs) (sym none))

pub found_glanced : (s : OwnedSegment) (old : FoundCodes) (closed : Bool)
    → closed ≡ is_sealed s → is_feedback s ≡ false
    → IsGlanced {S = FoundCodes} (λ seen found. CodesSoFar seen found.codes.items) old old s (not closed)
found_glanced s old true e other = refl
found_glanced s old false e other = (sym e, codes_unread s old.codes.items other)

pub codes_stop : (s : OwnedSegment) (old : List ℕ) (f : ParamFault) → IsBad s (bad_code s) f
    → IsMemoryOr (StopsIn feedback_fault CodesSoFar old (s ∷ [])) f
codes_stop s old Memory h = inl refl
codes_stop s old (Syntax x) h = absurd h
codes_stop s old (BadElement n m) h =
    inr
    (λ seen k.
    refused_here feedback_fault seen s (BadElement n m) k.none
    (rw h.0 (ap (λ (y : ℕ). Some (BadElement y m)) (sym h.1))))
codes_stop s old TwoBankParameters h = absurd h
codes_stop s old NoBankParameters h = absurd h
codes_stop s old NoPinParameters h = absurd h
