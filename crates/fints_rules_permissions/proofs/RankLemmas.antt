-- Rows in order: where those of a key begin, and that the first of them has the least rank.
use Rattle.std.proofs.Common.{◌≡◌, ℕ, ◌<◌, ◌≤◌, Bool, true, false, List, [], ◌∷◌, length, get_or, Some, None, refl, ap, ◌∙◌, sym, subst, arith, inl, inr}
use mathlib.Core.Bool.{true≢false}
use denote.Param.Members.{Mut}
use denote.Ref.{Bor}
use Rattle.std.specs.Prelude.{Contains}
use Rattle.std.specs.Fn.{Called, ComparesAs}
use Rattle.std.proofs.lemmas.Fn.{always_returns_same}
use Rattle.std.proofs.lemmas.Bool.{cases_lt}
use Rattle.std.proofs.lemmas.List.{get_or_default}
use Rattle.std.specs.Cmp.{IsTotalOrder, IsStrictWeakOrder, then_total, on_total, nat_cmp_total, alike_right, tied_back, tied_itself}
use Rattle.std.specs.Cmp.Lexicographic.{slice_cmp, texts_ties}
use Rattle.std.proofs.lemmas.Bool.Decides.{nat_tests}
use Rattle.std.proofs.lemmas.Slice.Eq.{bytes_eq-Decides}
use Rattle.std.specs.List.Sorted.{IsSorted, IsPartitionedBy, IsSortedBy}
use Rattle.std.specs.declared.cmp.Ordering.{Ordering}
use Rattle.std.specs.declared.cmp.Ordering.TheVariants.{Less, Equal, Greater}
use Rattle.std.specs.Ordering.{is_lt, is_eq, nat_cmp, ordering_then, ordering_reverse}
use Rattle.std.proofs.lemmas.List.Sorted.{ranks_by, sorted_far}
use Rattle.fints_rules_permissions.specs.Ranks.{ranked_cmp, BeginsAt, IsLeastRank}

-- ---- orderings

is_less : (o : Ordering) → is_lt o ≡ true → o ≡ Less
is_less Less h = refl
is_less Equal h = cc
is_less Greater h = cc

is_equal : (o : Ordering) → is_eq o ≡ true → o ≡ Equal
is_equal Less h = cc
is_equal Equal h = refl
is_equal Greater h = cc

first_not_less : (o p : Ordering) → is_lt (ordering_then o p) ≡ false → is_lt o ≡ false
first_not_less Less p h = h
first_not_less Equal p h = refl
first_not_less Greater p h = refl

second_not_less : (o p : Ordering) → o ≡ Equal → is_lt (ordering_then o p) ≡ false → is_lt p ≡ false
second_not_less Less p e h = cc
second_not_less Equal p e h = h
second_not_less Greater p e h = cc

pub then_equal : (o p : Ordering) → ordering_then o p ≡ Equal → (o ≡ Equal) × (p ≡ Equal)
then_equal Less p h = cc
then_equal Equal p h = (refl, h)
then_equal Greater p h = cc

not_less : (m n : ℕ) → is_lt (nat_cmp m n) ≡ false → n ≤ m
not_less m n h = grind (arith, nat_tests)

pub texts_equal : (xs ys : List ℕ) → slice_cmp nat_cmp xs ys ≡ Equal → xs ≡ ys
texts_equal xs ys h = (bytes_eq-Decides xs ys).0 (texts_ties xs ys ∙ ap is_eq h)

pub numbers_equal : (m n : ℕ) → nat_cmp m n ≡ Equal → m ≡ n
numbers_equal m n h = grind (arith, nat_tests)

-- ---- rows of keys that are totally ordered, and equal where they tie

module _ {X K : Type 0} {cmp : K → K → Ordering} (total : IsTotalOrder cmp)
    (exact : (a b : K) → cmp a b ≡ Equal → a ≡ b) (key : X → K) (rank : X → ℕ) where
  weak : IsStrictWeakOrder (λ (a b : X). is_lt (ranked_cmp cmp key rank a b))
  weak = ranks_by (then_total (on_total key total) (on_total rank nat_cmp_total)) (λ (x : X). x)

  -- a sort by what compares so
  pub sorted_by : {F : Type 0} {g : Mut F (Bor X × (Bor X × Unit {0})) Ordering} {f : F} (xs : List X)
      → ((lt : X → X → Bool) → IsStrictWeakOrder lt → ComparesAs g lt f → IsSortedBy lt xs)
      → ((a : Bor X × (Bor X × Unit {0})) (r : Ordering) (f' : F) → Called g f a r f'
      → (r ≡ ranked_cmp cmp key rank a.0.now a.1.0.now) × (f' ≡ f))
      → IsSorted (ranked_cmp cmp key rank) xs
  sorted_by {g = g} {f = f} xs up h =
      up (λ x y. is_lt (ranked_cmp cmp key rank x y)) weak
      (always_returns_same g (λ a r. is_lt r ≡ is_lt (ranked_cmp cmp key rank a.0.now a.1.0.now)) f
      (λ a r f' k. (ap is_lt (h a r f' k).0, (h a r f' k).1)))

  module _ (q : K) where
    -- what isn't above something below q is below q
    stays_before : (a b : K) (o : Ordering) → cmp a q ≡ o → is_lt (cmp b a) ≡ false
        → is_lt (cmp b q) ≡ true → is_lt o ≡ true
    stays_before a b Less e up h = refl
    stays_before a b Equal e up h =
        let same : cmp b q ≡ cmp b a = alike_right total q a b (tied_back total a q e) in
        let no : is_lt (cmp b a) ≡ true = ap is_lt (sym same) ∙ h in
        cc
    stays_before a b Greater e up h =
        let above : cmp q a ≡ Less = total.antisymm q a ∙ ap ordering_reverse e in
        let no : cmp b a ≡ Less = total.trans b q a (is_less _ h) above in
        let no' : is_lt (cmp b a) ≡ true = ap is_lt no in
        cc

    pub parted : (xs : List X) → IsSorted (ranked_cmp cmp key rank) xs
        → IsPartitionedBy (λ x. is_lt (cmp (key x) q)) xs
    parted xs up i j d le lt h =
        let a : K = key (get_or xs i d) in
        let b : K = key (get_or xs j d) in
        let far : is_lt (ranked_cmp cmp key rank (get_or xs j d) (get_or xs i d)) ≡ false = sorted_far _ weak xs up i j d le lt in
        stays_before a b (cmp a q) refl (first_not_less (cmp b a) _ far) h

    -- a row of the key is there or later
    no_earlier : (xs : List X) (i j : ℕ) (d : X) → BeginsAt cmp key q xs i → j < length xs
        → key (get_or xs j d) ≡ q → i ≤ j
    no_earlier xs i j d at lt e = elim (cases_lt j i) [
      | inl less ↦
          let yes : is_lt (cmp (key (get_or xs j d)) q) ≡ true = at.0 j d (omega arith) less in
          let level : cmp (key (get_or xs j d)) q ≡ Equal = ap (λ k. cmp k q) e ∙ tied_itself total q in
          let no : is_lt (cmp (key (get_or xs j d)) q) ≡ false = ap is_lt level in
          absurd (true≢false (sym yes ∙ no))
      | inr le ↦ le
    ]

    -- and the first that is there is of the key too, and has no greater rank
    level_first : (a : K) (o : Ordering) → cmp a q ≡ o → is_lt o ≡ false → is_lt (cmp q a) ≡ false → a ≡ q
    level_first a Less e h up = cc
    level_first a Equal e h up = exact a q e
    level_first a Greater e h up =
        let below : cmp q a ≡ Less = total.antisymm q a ∙ ap ordering_reverse e in
        let no : is_lt (cmp q a) ≡ true = ap is_lt below in
        cc

    first_level : (xs : List X) (i j : ℕ) (d : X) → IsSorted (ranked_cmp cmp key rank) xs
        → BeginsAt cmp key q xs i → j < length xs → key (get_or xs j d) ≡ q
        → (key (get_or xs i d) ≡ q) × (rank (get_or xs i d) ≤ rank (get_or xs j d))
    first_level xs i j d up at lt e =
        let le : i ≤ j = no_earlier xs i j d at lt e in
        let a : K = key (get_or xs i d) in
        let b : K = key (get_or xs j d) in
        let far : is_lt (ranked_cmp cmp key rank (get_or xs j d) (get_or xs i d)) ≡ false = sorted_far _ weak xs up i j d le lt in
        let up' : is_lt (cmp b a) ≡ false = first_not_less (cmp b a) _ far in
        let same : a ≡ q = level_first a (cmp a q) refl (at.1 i d (omega arith) (omega arith)) (subst (λ k. is_lt (cmp k a) ≡ false) e up') in
        let level : cmp b a ≡ Equal = ap (λ k. cmp k a) e ∙ ap (λ k. cmp q k) same ∙ tied_itself total q in
        (same, not_less _ _ (second_not_less (cmp b a) _ level far))

    -- the place of a row that is there
    at_place : (xs : List X) (x d : X) → Contains xs x → (j : ℕ) × (j < length xs) × (get_or xs j d ≡ x)
    at_place xs x d (k, lt, is) = (k, lt, get_or_default xs k d x lt ∙ is)

    pub least_found : (xs : List X) (i : ℕ) (x : X) → IsSorted (ranked_cmp cmp key rank) xs
        → BeginsAt cmp key q xs i → i < length xs → x ≡ get_or xs i x → is_eq (cmp (key x) q) ≡ true
        → IsLeastRank key rank q xs (Some (rank x))
    least_found xs i x up at lt is same =
        let e : key x ≡ q = exact _ q (is_equal _ same) in (
          (x, (i, lt, sym is), e, refl),
          λ y among of.
              let (j, lt', here) = at_place xs y x among in
              let first = first_level xs i j x up at lt' (ap key here ∙ of) in
              let le = first.1 in
              let a : rank x ≡ rank (get_or xs i x) = ap rank is in
              let b : rank (get_or xs j x) ≡ rank y = ap rank here in
              omega arith,
        )

    pub none_there : (xs : List X) (i : ℕ) (x : X) → IsSorted (ranked_cmp cmp key rank) xs
        → BeginsAt cmp key q xs i → x ≡ get_or xs i x → is_eq (cmp (key x) q) ≡ false
        → IsLeastRank key rank q xs None
    none_there xs i x up at is other y among of =
        let (j, lt', here) = at_place xs y x among in
        let first = first_level xs i j x up at lt' (ap key here ∙ of) in
        let e : key x ≡ q = ap key is ∙ first.0 in
        let level : is_eq (cmp (key x) q) ≡ true = ap (λ k. is_eq (cmp k q)) e ∙ ap is_eq (tied_itself total q) in
        true≢false (sym level ∙ other)

    pub none_left : (xs : List X) (i : ℕ) → BeginsAt cmp key q xs i → length xs ≤ i
        → IsLeastRank key rank q xs None
    none_left [] i at le y (k, lt, is) of = absurd (omega arith)
    none_left (x ∷ xs) i at le y among of =
        let (j, lt', here) = at_place (x ∷ xs) y x among in
        let le' : i ≤ j = no_earlier (x ∷ xs) i j x at lt' (ap key here ∙ of) in
        absurd (omega arith)
