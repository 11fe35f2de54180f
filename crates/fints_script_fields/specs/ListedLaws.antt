-- The longest and the shortest of listed values are listed, and none is longer or shorter. Lemmas with their proofs: nothing here need be believed.
use Rattle.std.specs.Prelude.{ℕ, ◌≡◌, ◌<◌, ◌≤◌, ◌⊎◌, max, nat_le, nat_lt, if◌then◌else◌, Bool, true, false, List, [], ◌∷◌, ◌++◌, length, map, All, Option, Some}
use Rattle.std.specs.List.{find, list_all}
use Rattle.std.specs.Option.{unwrap_or}
use Rattle.std.specs.Str.{bytes_eq}
use Rattle.std.proofs.Common.{refl, ap, sym, subst, ◌∙◌, arith, inl, inr}
use Rattle.std.proofs.lemmas.Bool.{cases_Bool, false≢true}
use Rattle.std.proofs.lemmas.Bool.Decides.{nat_tests}
use Rattle.std.proofs.lemmas.Slice.Eq.{bytes_eq-Decides}
use Rattle.std.proofs.lemmas.List.{length-map}
use Rattle.std.proofs.lemmas.List.Elements.{All-append, All-cons, All-nil, All-head, All-tail, All-weaker}
use Rattle.std.proofs.lemmas.List.Sums.{AllPass-from_list_all, list_all-from_AllPass}
use Rattle.fints_syntax_segments.specs.declared.item.OwnedItem.TheVariants.{Text}
use Rattle.fints_script_fields.specs.Joined.{joined}
use Rattle.fints_script_fields.specs.Listed.{IsListed, first_with, first_longest, first_shortest, account_text, account_items, IsAccountList, greatest}

-- ---- what is listed

-- what holds of the texts of all holds of each that is listed
listed_holds : {X : Type 0} (text : X → List ℕ) (P : List ℕ → Type 0) (xs : List X) (v : List ℕ)
    → All (λ x. P (text x)) xs → IsListed text xs v → P v
listed_holds text P [] v each l = absurd l
listed_holds text P (x ∷ xs) v each (inl e) = subst P e (All-head (λ y. P (text y)) x xs each)
listed_holds text P (x ∷ xs) v each (inr l) =
    listed_holds text P xs v (All-tail (λ y. P (text y)) x xs each) l

listed_there : {X : Type 0} (text : X → List ℕ) (before after : List X) (x : X)
    → IsListed text (before ++ x ∷ after) (text x)
listed_there text [] after x = inl refl
listed_there text (y ∷ before) after x = inr (listed_there text before after x)

-- ---- the best by a comparison of sizes, one by one

-- the first best among `best` and what follows it, where a test says which of two sizes is better
abbrev pub best_from : {X : Type 0} → (ℕ → ℕ → Bool) → (X → ℕ) → X → List X → X
best_from better size best [] = best
best_from better size best (x ∷ xs) =
    best_from better size (if better (size x) (size best) then x else best) xs

-- a greater size is better
abbrev longer : ℕ → ℕ → Bool
longer m n = nat_lt n m

-- the first of greatest size among `best` and what follows it
abbrev pub longest_from : {X : Type 0} → (X → ℕ) → X → List X → X
longest_from size best xs = best_from longer size best xs

-- the first of least size among `best` and what follows it
abbrev pub shortest_from : {X : Type 0} → (X → ℕ) → X → List X → X
shortest_from size best xs = best_from nat_lt size best xs

-- ---- the first that passes

find_behind : {X : Type 0} (p : X → Bool) (before after : List X) (x : X) → All (λ y. p y ≡ false) before
    → p x ≡ true → find p (before ++ x ∷ after) ≡ Some x
find_behind p [] after x fails passes = rw passes refl
find_behind p (y ∷ before) after x fails passes =
    let here : p y ≡ false = All-head (λ y. p y ≡ false) y before fails in
    rw here (find_behind p before after x (All-tail (λ y. p y ≡ false) y before fails) passes)

middle : {X : Type 0} (P : X → Type 0) (before after : List X) (x : X) → All P (before ++ x ∷ after) → P x
middle P [] after x each = All-head P x after each
middle P (y ∷ before) after x each = middle P before after x (All-tail P y (before ++ x ∷ after) each)

-- the first that passes is this, where a later test fails at it for all before it
first_passes : {X : Type 0} (q : X → X → Bool) (before after : List X) (best : X)
    → All (λ x. q x best ≡ false) before → All (λ y. q best y ≡ true) before → q best best ≡ true
    → All (λ y. q best y ≡ true) after
    → find (λ x. list_all (q x) (before ++ best ∷ after)) (before ++ best ∷ after) ≡ Some best
first_passes {X} q before after best fails earlier here later =
    let xs : List X = before ++ best ∷ after in
    find_behind (λ x. list_all (q x) xs) before after best
    (All-weaker (λ x. q x best ≡ false) (λ x. list_all (q x) xs ≡ false)
    (λ x no. elim (cases_Bool (list_all (q x) xs)) [
      | inl all ↦ absurd (false≢true
          (sym no ∙ middle (λ y. q x y ≡ true) before after best (AllPass-from_list_all (q x) xs all)))
      | inr not_all ↦ not_all
    ]) before fails)
    (list_all-from_AllPass (q best) xs
    (All-append (λ y. q best y ≡ true) before (best ∷ after) earlier
    (All-cons (λ y. q best y ≡ true) best after here later)))

-- ---- the first best

-- one test says that a size is better than another, the other that it is no better
record AreTests (better within : ℕ → ℕ → Bool) : Type 0 where
  yes : (m n : ℕ) → better m n ≡ true → within m n ≡ false
  no : (m n : ℕ) → better m n ≡ false → within m n ≡ true
  worse : (m n : ℕ) → better m n ≡ true → within n m ≡ true
  same : (n : ℕ) → within n n ≡ true
  through : (m n k : ℕ) → better m n ≡ true → better n k ≡ true → better m k ≡ true
  above : (m n k : ℕ) → better m n ≡ true → within k n ≡ true → better m k ≡ true

-- the first than which none is better
abbrev first_best : {X : Type 0} → (ℕ → ℕ → Bool) → (X → ℕ) → X → List X → X
first_best within size none xs = unwrap_or (find (λ x. list_all (λ y. within (size y) (size x)) xs) xs) none

module _ (better within : ℕ → ℕ → Bool) (tests : AreTests better within) where
  module _ {X : Type 0} (size : X → ℕ) where
    abbrev IsWorse : X → X → Type 0
    IsWorse best x = better (size best) (size x) ≡ true

    abbrev IsNoBetter : X → X → Type 0
    IsNoBetter best x = within (size x) (size best) ≡ true

    -- this is the first best
    record IsFirstBest (xs : List X) (best : X) : Type 0 where
      before : List X
      after : List X
      place : xs ≡ before ++ best ∷ after
      earlier : All (IsWorse best) before
      later : All (IsNoBetter best) after

    -- the first best of some is better than what comes before them, or that is best
    abbrev Best : X → List X → X → Type 0
    Best best xs r = ((r ≡ best) × All (IsNoBetter best) xs) ⊎ (IsFirstBest xs r × IsWorse r best)

    best_of : (best : X) (xs : List X) → Best best xs (best_from better size best xs)
    best_of best [] = inl (refl, All-nil (IsNoBetter best))
    best_of best (x ∷ xs) =
        elim (cases_Bool (better (size x) (size best))) [
          | inl h ↦
              let P : X → Type 0 = Best best (x ∷ xs) in
              rw h (elim (best_of x xs) [
                | inl (e, all) ↦
                    subst P (sym e)
                    (inr (
                      record {
                        before = [];
                        after = xs;
                        place = refl;
                        earlier = All-nil (IsWorse x);
                        later = all;
                      },
                      h,
                    ))
                | inr (m, rise) ↦
                    inr (
                      record {
                        before = x ∷ m.before;
                        after = m.after;
                        place = ap (λ l. x ∷ l) m.place;
                        earlier = All-cons (IsWorse (best_from better size x xs)) x m.before rise m.earlier;
                        later = m.later;
                      },
                      tests.through _ _ _ rise h,
                    )
              ])
          | inr h ↦
              let no_better = tests.no (size x) (size best) h in
              rw h (elim (best_of best xs) [
                | inl (e, all) ↦ inl (e, All-cons (IsNoBetter best) x xs no_better all)
                | inr (m, rise) ↦
                    inr (
                      record {
                        before = x ∷ m.before;
                        after = m.after;
                        place = ap (λ l. x ∷ l) m.place;
                        earlier =
                            All-cons (IsWorse (best_from better size best xs)) x m.before
                            (tests.above _ _ _ rise no_better) m.earlier;
                        later = m.later;
                      },
                      rise,
                    )
              ])
        ]

    best_first : (x : X) (xs : List X) → IsFirstBest (x ∷ xs) (best_from better size x xs)
    best_first x xs =
        let P : X → Type 0 = IsFirstBest (x ∷ xs) in
        elim (best_of x xs) [
          | inl (e, all) ↦
              subst P (sym e)
              (record { before = []; after = xs; place = refl; earlier = All-nil (IsWorse x); later = all })
          | inr (m, rise) ↦
              record {
                before = x ∷ m.before;
                after = m.after;
                place = ap (λ l. x ∷ l) m.place;
                earlier = All-cons (IsWorse (best_from better size x xs)) x m.before rise m.earlier;
                later = m.later;
              }
        ]

    none_before : (before : List X) (best : X) → All (IsWorse best) before → All (IsNoBetter best) before
    none_before before best all =
        All-weaker (IsWorse best) (IsNoBetter best) (λ x h. tests.worse (size best) (size x) h) before all

    none_better : (xs : List X) (best : X) → IsFirstBest xs best → All (IsNoBetter best) xs
    none_better xs best f =
        subst (All (IsNoBetter best)) (sym f.place)
        (All-append (IsNoBetter best) f.before (best ∷ f.after) (none_before f.before best f.earlier)
        (All-cons (IsNoBetter best) best f.after (tests.same (size best)) f.later))

    found_best : (none : X) (xs : List X) (best : X) → IsFirstBest xs best
        → first_best within size none xs ≡ best
    found_best none xs best f =
        let at = first_passes (λ x y. within (size y) (size x)) f.before f.after best
        (All-weaker (IsWorse best) (λ x. within (size best) (size x) ≡ false)
        (λ x h. tests.yes (size best) (size x) h)
        f.before f.earlier)
        (none_before f.before best f.earlier) (tests.same (size best)) f.later in
        ap (first_best within size none) f.place ∙ ap (λ (o : Option X). unwrap_or o none) at

    -- one by one, from the first on
    best_is : (none x : X) (xs : List X) → first_best within size none (x ∷ xs) ≡ best_from better size x xs
    best_is none x xs = found_best none (x ∷ xs) (best_from better size x xs) (best_first x xs)

  -- ---- how long they are

  module _ {X : Type 0} (text : X → List ℕ) (g : List ℕ → ℕ) where
    abbrev best_text : X → List X → List ℕ
    best_text none xs = text (first_best within (λ x. g (text x)) none xs)

    best_most : (none : X) (xs : List X) (v : List ℕ) → IsListed text xs v
        → within (g v) (g (best_text none xs)) ≡ true
    best_most none [] v l = absurd l
    best_most none (x ∷ xs) v l =
        let size : X → ℕ = λ y. g (text y) in
        let best = best_from better size x xs in
        subst (λ y. within (g v) (g (text y)) ≡ true) (sym (best_is size none x xs))
        (listed_holds text (λ t. within (g t) (g (text best)) ≡ true) (x ∷ xs) v
        (none_better size (x ∷ xs) best (best_first size x xs)) l)

    best_listed : (none : X) (xs : List X) → 0 < length xs → IsListed text xs (best_text none xs)
    best_listed none [] h = absurd (omega arith)
    best_listed none (x ∷ xs) h =
        let size : X → ℕ = λ y. g (text y) in
        let best = best_from better size x xs in
        let f = best_first size x xs in
        subst (λ y. IsListed text (x ∷ xs) (text y)) (sym (best_is size none x xs))
        (subst (λ (l : List X). IsListed text l (text best)) (sym f.place)
        (listed_there text f.before f.after best))

-- ---- the longest and the shortest

longer_tests : AreTests longer nat_le
longer_tests = record {
  yes = λ m n h. grind (arith, nat_tests);
  no = λ m n h. grind (arith, nat_tests);
  worse = λ m n h. grind (arith, nat_tests);
  same = λ n. grind (arith, nat_tests);
  through = λ m n k h i. grind (arith, nat_tests);
  above = λ m n k h i. grind (arith, nat_tests);
}

-- a size that isn't below
abbrev not_below : ℕ → ℕ → Bool
not_below m n = nat_le n m

shorter_tests : AreTests nat_lt not_below
shorter_tests = record {
  yes = λ m n h. grind (arith, nat_tests);
  no = λ m n h. grind (arith, nat_tests);
  worse = λ m n h. grind (arith, nat_tests);
  same = λ n. grind (arith, nat_tests);
  through = λ m n k h i. grind (arith, nat_tests);
  above = λ m n k h i. grind (arith, nat_tests);
}

at_most : (m n : ℕ) → nat_le m n ≡ true → m ≤ n
at_most m n h = grind (arith, nat_tests)

module _ {X : Type 0} (size : X → ℕ) where
  pub longest_is : (none x : X) (xs : List X) → first_longest size none (x ∷ xs) ≡ longest_from size x xs
  longest_is none x xs = best_is longer nat_le longer_tests size none x xs

  pub shortest_is : (none x : X) (xs : List X) → first_shortest size none (x ∷ xs) ≡ shortest_from size x xs
  shortest_is none x xs = best_is nat_lt not_below shorter_tests size none x xs

module _ {X : Type 0} (text : X → List ℕ) (g : List ℕ → ℕ) where
  pub longest_most : (none : X) (xs : List X) (v : List ℕ) → IsListed text xs v
      → g v ≤ g (text (first_longest (λ x. g (text x)) none xs))
  longest_most none xs v l = at_most _ _ (best_most longer nat_le longer_tests text g none xs v l)

  pub shortest_least : (none : X) (xs : List X) (v : List ℕ) → IsListed text xs v
      → g (text (first_shortest (λ x. g (text x)) none xs)) ≤ g v
  shortest_least none xs v l = at_most _ _ (best_most nat_lt not_below shorter_tests text g none xs v l)

  pub longest_listed : (none : X) (xs : List X) → 0 < length xs
      → IsListed text xs (text (first_longest (λ x. g (text x)) none xs))
  longest_listed none xs h = best_listed longer nat_le longer_tests text g none xs h

  pub shortest_listed : (none : X) (xs : List X) → 0 < length xs
      → IsListed text xs (text (first_shortest (λ x. g (text x)) none xs))
  shortest_listed none xs h = best_listed nat_lt not_below shorter_tests text g none xs h

-- ---- the items of a listed account

bytes_same : (a b : List ℕ) → bytes_eq a b ≡ true → a ≡ b
bytes_same a b h = let d = bytes_eq-Decides a b in grind (arith, nat_tests)

bytes_other : (a b : List ℕ) → bytes_eq a b ≡ false → a ≡ b → ⊥
bytes_other a b h e = let d = bytes_eq-Decides a b in grind (arith, nat_tests)

pub account_found : (accounts : List (List (List ℕ))) (v : List ℕ) → IsListed account_text accounts v
    → account_text (first_with account_text [] accounts v) ≡ v
account_found [] v l = absurd l
account_found (a ∷ more) v (inl e) =
    elim (cases_Bool (bytes_eq (account_text a) v)) [
      | inl h ↦ rw h e
      | inr h ↦ absurd (bytes_other (account_text a) v h e)
    ]
account_found (a ∷ more) v (inr l) =
    elim (cases_Bool (bytes_eq (account_text a) v)) [
      | inl h ↦ rw h (bytes_same (account_text a) v h)
      | inr h ↦ rw h (account_found more v l)
    ]

-- what holds of each listed value holds of the one that is found
found : {X : Type 0} → (text : X → List ℕ) (P : X → Type 0) (none : X) (xs : List X) (v : List ℕ) → All P xs
    → IsListed text xs v → P (first_with text none xs v)
found text P none [] v each l = absurd l
found text P none (x ∷ xs) v each l =
    elim (cases_Bool (bytes_eq (text x) v)) [
      | inl h ↦ rw h (All-head P x xs each)
      | inr h ↦ rw h (found text P none xs v (All-tail P x xs each)
          (elim l [ inl e ↦ absurd (bytes_other (text x) v h e) | inr m ↦ m ]))
    ]

pub account_some : (accounts : List (List (List ℕ))) (v : List ℕ) → All IsAccountList accounts
    → IsListed account_text accounts v → 0 < length (account_items (first_with account_text [] accounts v))
account_some accounts v each l =
    let a = found account_text IsAccountList [] accounts v each l in
    omega (arith, a.some, length-map (first_with account_text [] accounts v) Text)

pub account_as_items : (accounts : List (List (List ℕ))) (v : List ℕ) → IsListed account_text accounts v
    → length v ≡ length (joined (account_items (first_with account_text [] accounts v)))
account_as_items accounts v l = ap length (sym (account_found accounts v l))

-- no number is above the greatest
below_greatest : {X : Type 0} → (f : X → ℕ) (xs : List X) → All (λ x. f x ≤ greatest (map f xs)) xs
below_greatest f [] = All-nil (λ x. f x ≤ 0)
below_greatest f (x ∷ xs) =
    All-cons (λ y. f y ≤ max (f x) (greatest (map f xs))) x xs (omega arith)
    (λ k d lt. let ih = below_greatest f xs k d lt in omega arith)

pub account_most : (accounts : List (List (List ℕ))) (v : List ℕ) → IsListed account_text accounts v
    → length (account_items (first_with account_text [] accounts v)) ≤ greatest (map length accounts)
account_most accounts v l =
    let a =
    found account_text (λ a. length a ≤ greatest (map length accounts)) [] accounts v
    (below_greatest length accounts) l in
    omega (arith, a, length-map (first_with account_text [] accounts v) Text)
