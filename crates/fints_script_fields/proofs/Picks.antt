-- The steps of the loops over listed values.
use Rattle.std.proofs.Common.{◌≡◌, ◌≢◌, ◌↔◌, ℕ, ◌+◌, ◌<◌, ◌≤◌, ltb, cond, true, false, Bool, List, [], ◌∷◌, length, get_or, drop, arith, inl, inr, sym, ap, ◌∙◌}
use Rattle.std.proofs.lemmas.List.{drop_more}
use Rattle.std.proofs.lemmas.Bool.Decides.{nat_tests}
use Rattle.std.specs.Str.{bytes_eq}
use Rattle.std.proofs.lemmas.Slice.Eq.{bytes_eq-Decides}
use Rattle.fints_script_fields.specs.Listed.{IsListed, first_longest, first_shortest}
use Rattle.fints_script_fields.specs.ListedLaws.{longest_from, longest_is, shortest_from, shortest_is}

module _ {X : Type 0} (text : X → List ℕ) where
  pub listed_hit : (xs : List X) (i : ℕ) (d : X) (v : List ℕ) → i < length xs → text (get_or xs i d) ≡ v
      → (IsListed text xs v ↔ IsListed text (drop i xs) v) → IsListed text xs v
  listed_hit xs i d v lt e both = both.1 (rw (drop_more xs i d lt) (inl e))

  pub listed_step : (xs : List X) (i : ℕ) (d : X) (v : List ℕ) → i < length xs → text (get_or xs i d) ≢ v
      → (IsListed text xs v ↔ IsListed text (drop i xs) v)
      → (IsListed text xs v ↔ IsListed text (drop (i + 1) xs) v)
  listed_step xs i d v lt ne both =
      let there : IsListed text xs v → IsListed text (get_or xs i d ∷ drop (i + 1) xs) v = λ l. rw (drop_more xs i d lt) at (both.0 l) in
      (λ l. elim (there l) [ inl e ↦ absurd (ne e) | inr m ↦ m ], λ l. both.1 (rw (drop_more xs i d lt) (inr l)))

module _ {X : Type 0} (size : X → ℕ) where
  pub longest_init : (none d : X) (xs : List X) → 0 < length xs
      → first_longest size none xs ≡ longest_from size (get_or xs 0 d) (drop 0 xs)
  longest_init none d [] h = absurd (omega arith)
  longest_init none d (x ∷ xs) h =
      let same : ltb (size x) (size x) ≡ false = grind (arith, nat_tests) in longest_is size none x xs
      ∙ sym (ap (λ (b : Bool). longest_from size (cond b x x) xs) same)

  pub longest_step : (best d : X) (xs : List X) (i : ℕ) → i < length xs → size best < size (get_or xs i d)
      → longest_from size best (drop i xs) ≡ longest_from size (get_or xs i d) (drop (i + 1) xs)
  longest_step best d xs i lt h =
      let yes' : ltb (size best) (size (get_or xs i d)) ≡ true = grind (arith, nat_tests) in rw
      (drop_more xs i d lt)
      (ap (λ (b : Bool). longest_from size (cond b (get_or xs i d) best) (drop (i + 1) xs)) yes')

  pub longest_stay : (best d : X) (xs : List X) (i : ℕ) → i < length xs → size (get_or xs i d) ≤ size best
      → longest_from size best (drop i xs) ≡ longest_from size best (drop (i + 1) xs)
  longest_stay best d xs i lt h =
      let no' : ltb (size best) (size (get_or xs i d)) ≡ false = grind (arith, nat_tests) in rw
      (drop_more xs i d lt)
      (ap (λ (b : Bool). longest_from size (cond b (get_or xs i d) best) (drop (i + 1) xs)) no')

  pub shortest_init : (none d : X) (xs : List X) → 0 < length xs
      → first_shortest size none xs ≡ shortest_from size (get_or xs 0 d) (drop 0 xs)
  shortest_init none d [] h = absurd (omega arith)
  shortest_init none d (x ∷ xs) h =
      let same : ltb (size x) (size x) ≡ false = grind (arith, nat_tests) in shortest_is size none x xs
      ∙ sym (ap (λ (b : Bool). shortest_from size (cond b x x) xs) same)

  pub shortest_step : (best d : X) (xs : List X) (i : ℕ) → i < length xs → size (get_or xs i d) < size best
      → shortest_from size best (drop i xs) ≡ shortest_from size (get_or xs i d) (drop (i + 1) xs)
  shortest_step best d xs i lt h =
      let yes' : ltb (size (get_or xs i d)) (size best) ≡ true = grind (arith, nat_tests) in rw
      (drop_more xs i d lt)
      (ap (λ (b : Bool). shortest_from size (cond b (get_or xs i d) best) (drop (i + 1) xs)) yes')

  pub shortest_stay : (best d : X) (xs : List X) (i : ℕ) → i < length xs → size best ≤ size (get_or xs i d)
      → shortest_from size best (drop i xs) ≡ shortest_from size best (drop (i + 1) xs)
  shortest_stay best d xs i lt h =
      let no' : ltb (size (get_or xs i d)) (size best) ≡ false = grind (arith, nat_tests) in rw
      (drop_more xs i d lt)
      (ap (λ (b : Bool). shortest_from size (cond b (get_or xs i d) best) (drop (i + 1) xs)) no')

-- texts that compare as equal
pub same_bytes : (a b : List ℕ) → bytes_eq a b ≡ true → a ≡ b
same_bytes a b h = let d = bytes_eq-Decides a b in grind (arith, nat_tests)

pub other_bytes : (a b : List ℕ) → bytes_eq a b ≡ false → a ≡ b → ⊥
other_bytes a b h e = let d = bytes_eq-Decides a b in grind (arith, nat_tests)
