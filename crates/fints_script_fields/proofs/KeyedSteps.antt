-- Values that are looked up by their texts and the numbers of their items.
use Rattle.std.proofs.Common.{◌≡◌, ◌≢◌, ℕ, ◌+◌, ◌<◌, ◌&&◌, ◌||◌, Bool, true, false, not, cond, eqb, List, length, get_or, take, refl, sym, ap, ◌∙◌, Bor, arith}
use Rattle.std.specs.Cmp.{both_tied, unsigned_ties}
use Rattle.std.specs.Cmp.Lexicographic.{slice_cmp, texts_ties}
use Rattle.std.specs.declared.cmp.Ordering.{Ordering}
use Rattle.std.specs.List.{AllPairs, Contains, list_any}
use Rattle.std.specs.Ordering.{is_eq, nat_cmp, ordering_then}
use Rattle.std.specs.Str.{bytes_eq}
use Rattle.std.proofs.lemmas.Bool.{false≢true, and_from, and_parts, not-false, not-true}
use Rattle.std.proofs.lemmas.Bool.Decides.{Decides-eqb}
use Rattle.std.proofs.lemmas.List.{get_or_default, get_or-take, length-take-le}
use Rattle.std.proofs.lemmas.List.Folds.{list_any_more, Any-from_list_any, list_any-from_Any}
use Rattle.std.proofs.lemmas.Slice.Eq.{bytes_eq-Decides}

-- what a value is looked up by
abbrev pub Key : Type 0
Key = Bor (List ℕ) × ℕ

abbrev pub key_cmp : Key → Key → Ordering
key_cmp x y = ordering_then (slice_cmp nat_cmp x.0.now y.0.now) (nat_cmp x.1 y.1)

-- whether a key was new says whether it was found before
pub new_unfound : (found fresh : Bool) → fresh ≡ not found → fresh ≡ true → found ≡ false
new_unfound found fresh e new = not-true found (sym e ∙ new)

pub old_found : (found fresh : Bool) → fresh ≡ not found → fresh ≡ false → found ≡ true
old_found found fresh e old = not-false found (sym e ∙ old)

cond_or : (b o : Bool) → cond b true o ≡ (o || b)
cond_or true true = refl
cond_or true false = refl
cond_or false true = refl
cond_or false false = refl

module _ {X : Type 0} (text : X → List ℕ) (count : X → ℕ) where
  -- whether the value has this key
  abbrev pub has_key : Key → X → Bool
  has_key q x = bytes_eq (text x) q.0.now && eqb (count x) q.1

  -- the keys of these values are found, and no others
  abbrev pub HoldsKeys : List X → (Key → Bool) → Type 0
  HoldsKeys xs found = (q : Key) → found q ≡ list_any (has_key q) xs

  own_key : (x : X) (k : Key) → k.0.now ≡ text x → k.1 ≡ count x → has_key k x ≡ true
  own_key x k text_is count_is =
      and_from (bytes_eq (text x) k.0.now) (eqb (count x) k.1)
      ((bytes_eq-Decides (text x) k.0.now).1 (sym text_is)) ((Decides-eqb (count x) k.1).1 (sym count_is))

  -- one more key
  pub keys_more : (xs : List X) (i : ℕ) (x : X) (k : Key) (old new : Key → Bool) → i < length xs
      → x ≡ get_or xs i x → k.0.now ≡ text x → k.1 ≡ count x
      → HoldsKeys (take i xs) old → ((q : Key) → new q ≡ cond (is_eq (key_cmp k q)) true (old q))
      → HoldsKeys (take (i + 1) xs) new
  keys_more xs i x k old new lt at text_is count_is holds updates q =
      let same : has_key q x ≡ is_eq (key_cmp k q) = rw (← text_is, ← count_is) (both_tied _ _ _ _ (texts_ties k.0.now q.0.now) (unsigned_ties k.1 q.1)) in
      let more : list_any (has_key q)
      (take (i + 1) xs) ≡ (list_any (has_key q) (take i xs) || has_key q (get_or xs i x)) =
      list_any_more (has_key q) xs i x lt in
      updates q ∙ cond_or (is_eq (key_cmp k q)) (old q)
      ∙ sym (more ∙ ap (λ (y : X). list_any (has_key q) (take i xs) || has_key q y) (sym at)
      ∙ ap (λ (b : Bool). list_any (has_key q) (take i xs) || b) same
      ∙ ap (λ (b : Bool). b || is_eq (key_cmp k q)) (sym (holds q)))

  -- a value whose key isn't found isn't among these
  pub unfound : (xs : List X) (x : X) (k : Key) (found : Key → Bool) → k.0.now ≡ text x → k.1 ≡ count x
      → HoldsKeys xs found → found k ≡ false → Contains xs x → ⊥
  unfound xs x k found text_is count_is holds none (j, lt, at) =
      false≢true (sym none ∙ holds k ∙ list_any-from_Any (has_key k) xs (j, x, lt, at, own_key x k text_is count_is))

  -- a value whose key is found among those before it equals one of them, if text and number determine a value
  pub found_twice : ((a b : X) → text a ≡ text b → count a ≡ count b → a ≡ b)
      → (xs : List X) (i : ℕ) (x : X) (k : Key) (found : Key → Bool) → i < length xs → x ≡ get_or xs i x
      → k.0.now ≡ text x → k.1 ≡ count x
      → HoldsKeys (take i xs) found → found k ≡ true → AllPairs (λ u v. u ≢ v) xs → ⊥
  found_twice told xs i x k found lt at text_is count_is holds some apart =
      let one = Any-from_list_any (has_key k) (take i xs) (sym (holds k) ∙ some) in
      let y = one.1 in
      let short : length (take i xs) ≡ i = length-take-le i xs (omega arith) in
      let below : one.0 < i = omega (arith, one.2) in
      let parts = and_parts (bytes_eq (text y) k.0.now) (eqb (count y) k.1) one.4 in
      let same : y ≡ x = told y x ((bytes_eq-Decides (text y) k.0.now).0 parts.0 ∙ text_is) ((Decides-eqb (count y) k.1).0 parts.1 ∙ count_is) in
      let there : get_or xs one.0 x ≡ y = sym (get_or-take i xs one.0 x below) ∙ get_or_default (take i xs) one.0 x y one.2 ∙ one.3 in
      apart one.0 i x below lt (there ∙ same ∙ at)
