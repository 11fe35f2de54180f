-- What parts and rows that have values have in them, and what loops over them give. Only proofs cite these words.
use Rattle.std.proofs.Common.{◌≡◌, ◌⊎◌, ℕ, zero, suc, ◌+◌, ◌<◌, Bool, true, false, cond, List, [], ◌∷◌, ◌++◌, length, get_or, take, map, All, Option, Some, None, Result, Ok, Err, refl, ap, subst, sym, ◌∙◌, inl, inr, arith}
use Rattle.std.specs.Prelude.{ok_or, slice_get}
use Rattle.std.proofs.lemmas.Bool.Decides.{nat_tests}
use Rattle.std.proofs.lemmas.List.{take_more, map_push}
use Rattle.std.proofs.lemmas.List.Elements.{All-cons, All-nil}
use Rattle.std.proofs.lemmas.Option.{same_Some}
use Rattle.toml.specs.declared.value.Value.{Value}
use Rattle.toml.specs.Data.{Data}
use Rattle.toml.specs.View.{view}
use Rattle.fints_script_rows.specs.FaultOrder.{first_of, rank}
use Rattle.fints_script_rows.specs.Parts.{Gives, Part, ◌>>=◌, ◌<*>◌, both, each, more, seen}
use Rattle.fints_script_rows.specs.Rows.{Finds, fault_at, part_at, placed, rows_from}
use Rattle.fints_script_rows.specs.declared.fault.FaultKind.{FaultKind}
use Rattle.fints_script_rows.specs.declared.fault.FaultKind.TheVariants as kinds
use Rattle.fints_script_rows.specs.declared.fault.Place.{Place}
use Rattle.fints_script_rows.specs.declared.fault.ScriptFault.{ScriptFault}

-- ---- parts that have a value

pub bind_ok : {X Y F : Type 0} (p : Result X F) (of : X → Result Y F) (y : Y) → (p >>= of) ≡ Ok y
    → (x : X) × (p ≡ Ok x) × (of x ≡ Ok y)
bind_ok (Ok x) of y e = (x, refl, e)
bind_ok (Err k) of y e = absurd cc

pub both_ok : {X Y : Type 0} (p : Part X) (q : Part Y) (z : X × Y) → both p q ≡ Ok z
    → (p ≡ Ok z.0) × (q ≡ Ok z.1)
both_ok (Ok x) (Ok y) z e = (cc, cc)
both_ok (Ok x) (Err k) z e = absurd cc
both_ok (Err j) (Ok y) z e = absurd cc
both_ok (Err j) (Err k) z e = absurd cc

-- the keys of a table so far and the next one, where all have values
pub next_ok : {X Y : Type 0} (p : Part (X → Y)) (q : Part X) (y : Y) → (p <*> q) ≡ Ok y
    → (f : X → Y) × (x : X) × (p ≡ Ok f) × (q ≡ Ok x) × (f x ≡ y)
next_ok (Ok f) (Ok x) y e = (f, x, refl, refl, cc)
next_ok (Ok f) (Err k) y e = absurd cc
next_ok (Err j) (Ok x) y e = absurd cc
next_ok (Err j) (Err k) y e = absurd cc

-- a choice that has a value
pub choice_ok : {X F : Type 0} (b : Bool) (p q : Result X F) (x : X) → cond b p q ≡ Ok x
    → (b ≡ true) × (p ≡ Ok x) ⊎ (b ≡ false) × (q ≡ Ok x)
choice_ok true p q x e = inl (refl, e)
choice_ok false p q x e = inr (refl, e)

-- a value that must be there, and is
pub or_ok : {X F : Type 0} (o : Option X) (fault : F) (x : X) → ok_or o fault ≡ Ok x → o ≡ Some x
or_ok None fault x e = absurd cc
or_ok (Some y) fault x e = cc

-- ---- kinds

memory_first : (k : FaultKind) → first_of kinds.Memory k ≡ kinds.Memory
memory_first k = grind (arith, nat_tests)

memory_last : (k : FaultKind) → first_of k kinds.Memory ≡ kinds.Memory
memory_last kinds.Memory = refl
memory_last kinds.NotToml = refl
memory_last kinds.UnknownKey = refl
memory_last kinds.Missing = refl
memory_last kinds.WrongKind = refl
memory_last kinds.NotLatin1 = refl
memory_last kinds.BadHex = refl
memory_last kinds.Duplicate = refl
memory_last kinds.NoSuchName = refl
memory_last kinds.BackwardJump = refl
memory_last kinds.BadPattern = refl
memory_last kinds.Limit = refl

chosen : (i j k : FaultKind) (a b c : ℕ) → rank i ≡ a → rank j ≡ b → rank k ≡ c
    → first_of i (first_of j k) ≡ first_of (first_of i j) k
chosen i j k a b c x y z = grind (arith, nat_tests)

-- three kinds have one first
pub first_of_three : (i j k : FaultKind) → first_of i (first_of j k) ≡ first_of (first_of i j) k
first_of_three i j k = chosen i j k (rank i) (rank j) (rank k) refl refl refl

-- ---- a part, or that memory ran out in its place

abbrev Near : {X : Type 0} → Part X → Part X → Type 0
Near p q = (p ≡ Err kinds.Memory) ⊎ (q ≡ p)

module _ {X Y : Type 0} where
  near : (see : X → Y) (r : Result X FaultKind) (part : Part Y) → Gives see r part → Near (seen see r) part
  near see (Ok x) part h = inr h
  near see (Err k) part (inl m) = inl (ap Err m)
  near see (Err k) part (inr e) = inr e

  -- what is near a part that was given is near what it is near to
  gives_near : (see : X → Y) (r : Result X FaultKind) (p q : Part Y) → Gives see r p → Near p q
      → Gives see r q
  gives_near see (Ok x) p q h (inl m) = absurd cc
  gives_near see (Ok x) p q h (inr e) = e ∙ h
  gives_near see (Err k) p q (inl m) n = inl m
  gives_near see (Err k) p q (inr e) (inl m) = inl (cc)
  gives_near see (Err k) p q (inr e) (inr f) = inr (f ∙ e)

  bind_near : (of : X → Part Y) (p q : Part X) → Near p q → Near (p >>= of) (q >>= of)
  bind_near of p q (inl m) = inl (ap (λ (x : Part X). x >>= of) m)
  bind_near of p q (inr e) = inr (ap (λ (x : Part X). x >>= of) e)

  memory_left : (b : Part Y) → both {X = X} (Err kinds.Memory) b ≡ Err kinds.Memory
  memory_left (Ok y) = refl
  memory_left (Err k) = ap Err (memory_first k)

  memory_right : (a : Part X) → both {Y = Y} a (Err kinds.Memory) ≡ Err kinds.Memory
  memory_right (Ok x) = refl
  memory_right (Err k) = ap Err (memory_last k)

  both_near : (a p : Part X) (b q : Part Y) → Near a p → Near b q → Near (both a b) (both p q)
  both_near a p b q (inl m) n = inl (ap (λ (x : Part X). both x b) m ∙ memory_left b)
  both_near a p b q (inr e) (inl m) = inl (ap (λ (y : Part Y). both a y) m ∙ memory_right a)
  both_near a p b q (inr e) (inr f) = inr (ap (λ (x : Part X). both x q) e ∙ ap (λ (y : Part Y). both a y) f)

near_same : {X : Type 0} → (r part : Part X) → Gives (λ x. x) r part → Near r part
near_same (Ok x) part h = inr h
near_same (Err k) part (inl m) = inl (ap Err m)
near_same (Err k) part (inr e) = inr e

-- what is seen of values as they are
pub seen_same : {X : Type 0} → (r : Part X) → seen (λ x. x) r ≡ r
seen_same (Ok x) = refl
seen_same (Err k) = refl

itself : {X : Type 0} → (part : Part X) → Gives (λ x. x) part part
itself (Ok x) = refl
itself (Err k) = inr refl

-- a call that gives the part itself
pub exact_gives : {X : Type 0} → (r part : Part X) → r ≡ part → Gives (λ x. x) r part
exact_gives r part e = subst (Gives (λ x. x) r) e (itself r)

-- a fault, handed on
pub fault_gives : {X Y Z : Type 0}
    → (see : X → Y) (look : Z → Y) (r : Result X FaultKind) (kind : FaultKind) (part : Part Y)
    → Gives see r part → r ≡ Err kind → Gives look (Err kind) part
fault_gives see look (Ok x) kind part h e = absurd cc
fault_gives {Y = Y} {Z = Z} see look (Err k) kind part h e =
    let same : k ≡ kind = cc in
    subst (λ j. Gives {X = Z} look (Err j) part) same h

-- what a call gives is given by what is seen of its value
pub gives_seen : {X Y : Type 0} → (see : X → Y) (r : Result X FaultKind) (part : Part Y) → Gives see r part
    → Gives (λ y. y) (seen see r) part
gives_seen see (Ok x) part h = h
gives_seen see (Err k) part h = h

-- a call's result that is near a part gives it
near_gives : {X Y : Type 0} → (see : X → Y) (r : Result X FaultKind) (part : Part Y) → Near (seen see r) part
    → Gives see r part
near_gives see (Ok x) part (inl m) = absurd cc
near_gives see (Ok x) part (inr e) = e
near_gives see (Err k) part (inl m) = inl (cc)
near_gives see (Err k) part (inr e) = inr e

pub seen_both : {X Y U V : Type 0}
    → (see : X → U) (look : Y → V) (a : Result X FaultKind) (b : Result Y FaultKind)
    → both (seen see a) (seen look b) ≡ seen (λ (z : X × Y). (see z.0, look z.1)) (both a b)
seen_both see look (Ok x) (Ok y) = refl
seen_both see look (Ok x) (Err k) = refl
seen_both see look (Err j) (Ok y) = refl
seen_both see look (Err j) (Err k) = refl

-- what two calls give, together
pub both_gives : {X Y U V : Type 0}
    → (see : X → U) (look : Y → V) (a : Result X FaultKind) (b : Result Y FaultKind) (p : Part U) (q : Part V)
    → Gives see a p → Gives look b q
    → Gives (λ (z : X × Y). (see z.0, look z.1)) (both a b) (both p q)
both_gives see look a b p q h i =
    near_gives (λ z. (see z.0, look z.1)) (both a b) (both p q)
    (subst (λ r. Near r (both p q)) (seen_both see look a b)
    (both_near (seen see a) p (seen look b) q (near see a p h) (near look b q i)))

-- a table of three keys, by the first two together
pub three_keys : {X Y Z V : Type 0} → (of : X → Y → Z → V) (p : Part X) (q : Part Y) (r : Part Z)
    → (Ok of <*> p <*> q <*> r) ≡ seen (λ (v : (X × Y) × Z). of v.0.0 v.0.1 v.1) (both (both p q) r)
three_keys of (Ok x) (Ok y) (Ok z) = refl
three_keys of (Ok x) (Ok y) (Err l) = refl
three_keys of (Ok x) (Err k) (Ok z) = refl
three_keys of (Ok x) (Err k) (Err l) = refl
three_keys of (Err j) (Ok y) (Ok z) = refl
three_keys of (Err j) (Ok y) (Err l) = refl
three_keys of (Err j) (Err k) (Ok z) = refl
three_keys of (Err j) (Err k) (Err l) = refl

-- what a call gives, as the value of the first key of a table
pub first_gives : {X V W : Type 0}
    → (of : V → W) (see : X → V) (r : Result X FaultKind) (part : Part V) → Gives see r part
    → Gives (λ x. of (see x)) r (Ok of <*> part)
first_gives {V = V} of see (Ok x) part e = ap (λ (p : Part V). Ok of <*> p) e
first_gives of see (Err k) part (inl m) = inl m
first_gives {V = V} of see (Err k) part (inr e) = inr (ap (λ (p : Part V). Ok of <*> p) e)

applied_gives : {Z V W : Type 0}
    → (see : Z → (V → W) × V) (r : Result Z FaultKind) (part : Part ((V → W) × V)) → Gives see r part
    → Gives (λ z. (see z).0 (see z).1) r (part >>= λ v. Ok (v.0 v.1))
applied_gives {V = V} {W = W} see (Ok z) part e = ap (λ (p : Part ((V → W) × V)). p >>= λ v. Ok (v.0 v.1)) e
applied_gives see (Err k) part (inl m) = inl m
applied_gives {V = V} {W = W} see (Err k) part (inr e) =
    inr (ap (λ (p : Part ((V → W) × V)). p >>= λ v. Ok (v.0 v.1)) e)

-- what the calls for the keys so far give, and the one for the next key, together
pub next_gives : {X Y V W : Type 0}
    → (see : X → V → W) (look : Y → V) (a : Result X FaultKind) (b : Result Y FaultKind)
    (r : Result (X × Y) FaultKind) (p : Part (V → W)) (q : Part V)
    → Gives see a p → Gives look b q → r ≡ both a b → Gives (λ (z : X × Y). see z.0 (look z.1)) r (p <*> q)
next_gives {X = X} {Y = Y} see look a b r p q h i is =
    subst (λ (s : Result (X × Y) FaultKind). Gives (λ (z : X × Y). see z.0 (look z.1)) s (p <*> q)) (sym is)
    (applied_gives (λ (z : X × Y). (see z.0, look z.1)) (both a b) (both p q)
    (both_gives see look a b p q h i))

-- what a call gives at a place
pub placed_finds : {X Y : Type 0} → (see : X → Y) (place : Place) (r : Result X FaultKind) (part : Part Y)
    → Gives see r part → Finds see (placed place r) (part_at place part)
placed_finds see place (Ok x) part h = ap (part_at place) h
placed_finds see place (Err k) part (inl m) =
    subst (λ j. Finds see (placed place (Err j)) (part_at place part)) (sym m) (inl refl)
placed_finds {Y = Y} see place (Err k) part (inr e) =
    subst (λ (q : Part Y). Finds see (placed place (Err k)) (part_at place q)) (sym e) (at_kind k)
  where
    at_kind : (j : FaultKind) → Finds see (placed place (Err j)) (Err (fault_at place j))
    at_kind kinds.Memory = inl refl
    at_kind kinds.NotToml = inr refl
    at_kind kinds.UnknownKey = inr refl
    at_kind kinds.Missing = inr refl
    at_kind kinds.WrongKind = inr refl
    at_kind kinds.NotLatin1 = inr refl
    at_kind kinds.BadHex = inr refl
    at_kind kinds.Duplicate = inr refl
    at_kind kinds.NoSuchName = inr refl
    at_kind kinds.BackwardJump = inr refl
    at_kind kinds.BadPattern = inr refl
    at_kind kinds.Limit = inr refl

-- ---- lists

module _ {X : Type 0} where
  later_more : (a : Part X) (xs : Part (List X)) (b : Part X)
      → (both a (more xs b) >>= λ p. Ok (p.0 ∷ p.1)) ≡ more (both a xs >>= λ p. Ok (p.0 ∷ p.1)) b
  later_more (Ok x) (Ok xs) (Ok y) = refl
  later_more (Ok x) (Ok xs) (Err k) = refl
  later_more (Ok x) (Err j) (Ok y) = refl
  later_more (Ok x) (Err j) (Err k) = refl
  later_more (Err i) (Ok xs) (Ok y) = refl
  later_more (Err i) (Ok xs) (Err k) = refl
  later_more (Err i) (Err j) (Ok y) = refl
  later_more (Err i) (Err j) (Err k) = ap Err (first_of_three i j k)

  one_more : (a : Part X) → (both a (Ok []) >>= λ p. Ok (p.0 ∷ p.1)) ≡ more (Ok []) a
  one_more (Ok x) = refl
  one_more (Err k) = refl

  pub first_and_rest : (a : Part X) (others : Part (List X)) (xs : List X)
      → (both a others >>= λ p. Ok (p.0 ∷ p.1)) ≡ Ok xs
      → (x : X) × (rest : List X) × (a ≡ Ok x) × (others ≡ Ok rest) × (xs ≡ x ∷ rest)
  first_and_rest (Ok x) (Ok rest) xs e = (x, rest, refl, refl, cc)
  first_and_rest (Ok x) (Err k) xs e = absurd cc
  first_and_rest (Err j) (Ok rest) xs e = absurd cc
  first_and_rest (Err j) (Err k) xs e = absurd cc

module _ {X Y : Type 0} where
  -- the values of a list with one more element
  pub each_more : (part : Y → Part X) (ys : List Y) (y : Y)
      → each part (ys ++ y ∷ []) ≡ more (each part ys) (part y)
  each_more part [] y = one_more (part y)
  each_more part (z ∷ ys) y =
      ap (λ (p : Part (List X)). both (part z) p >>= λ p. Ok (p.0 ∷ p.1)) (each_more part ys y)
      ∙ later_more (part z) (each part ys) (part y)

  -- what holds of each value of the part holds of the values of a list
  pub each_all : (part : Y → Part X) (P : X → Type 0) → ((y : Y) (x : X) → part y ≡ Ok x → P x)
      → (ys : List Y) (xs : List X) → each part ys ≡ Ok xs → All P xs
  each_all part P has [] xs e = let none : xs ≡ [] = cc in subst (All P) (sym none) (All-nil P)
  each_all part P has (y ∷ ys) xs e =
      let parts = first_and_rest (part y) (each part ys) xs e in
      subst (All P) (sym parts.4)
      (All-cons P parts.0 parts.1 (has y parts.0 parts.2) (each_all part P has ys parts.1 parts.3))

  pub each_length : (part : Y → Part X) (ys : List Y) (xs : List X) → each part ys ≡ Ok xs
      → length xs ≡ length ys
  each_length part [] xs e = let none : xs ≡ [] = cc in ap length none
  each_length part (y ∷ ys) xs e =
      let parts = first_and_rest (part y) (each part ys) xs e in
      ap length parts.4 ∙ ap suc (each_length part ys parts.1 parts.3)

-- what a loop has of the entries so far, with one more
pub each_step : {V X : Type 0}
    → (see : V → List X) (part : Data → Part X) (vs : List Value) (i : ℕ) (v : Value)
    (items r : Result V FaultKind) (item : Part X)
    → i < length vs → v ≡ get_or vs i v
    → Gives see items (each part (map view (take i vs))) → Gives (λ x. x) item (part (view v))
    → Gives see r (more (seen see items) item) → Gives see r (each part (map view (take (i + 1) vs)))
each_step see part vs i v items r item h is so_far one step =
    let entries : map view (take i vs) ++ view v ∷ [] ≡ map view (take (i + 1) vs) =
    ap (λ w. map view (take i vs) ++ view w ∷ []) is
    ∙ sym (ap (map view) (take_more vs i v h) ∙ map_push view (take i vs) (get_or vs i v)) in
    let near_more =
    bind_near (λ p. Ok (p.0 ++ p.1 ∷ [])) (both (seen see items) item)
    (both (each part (map view (take i vs))) (part (view v)))
    (both_near (seen see items) (each part (map view (take i vs))) item (part (view v))
    (near see items (each part (map view (take i vs))) so_far)
    (near_same item (part (view v)) one)) in
    gives_near see r (more (seen see items) item) (each part (map view (take (i + 1) vs))) step
    (subst (Near (more (seen see items) item))
    (sym (each_more part (map view (take i vs)) (view v)) ∙ ap (each part) entries) near_more)

-- ---- rows

from_zero : (i : ℕ) → i ≡ 0 + i
from_zero i = omega arith

module _ {X : Type 0} (place : ℕ → Place) (part : ℕ → Data → Part X) where
  joined : (at : Place) (p : Part X) (rest : Result (List X) ScriptFault) (x : X) (xs : List X) → p ≡ Ok x
      → rest ≡ Ok xs → (part_at at p >>= λ y. rest >>= λ ys. Ok (y ∷ ys)) ≡ Ok (x ∷ xs)
  joined at p rest x xs e f =
      ap (λ (q : Part X). part_at at q >>= λ y. rest >>= λ ys. Ok (y ∷ ys)) e
      ∙ ap (λ (r : Result (List X) ScriptFault). r >>= λ ys. Ok (x ∷ ys)) f

  part_ok : (at : Place) (p : Part X) (x : X) → part_at at p ≡ Ok x → p ≡ Ok x
  part_ok at (Ok y) x e = cc
  part_ok at (Err k) x e = absurd cc

  -- the first row and the others, where all have values
  pub rows_first : (k : ℕ) (d : Data) (ds : List Data) (xs : List X) → rows_from place part k (d ∷ ds) ≡ Ok xs
      → (x : X) × (rest : List X) × (part k d ≡ Ok x) × (rows_from place part (k + 1) ds ≡ Ok rest)
      × (xs ≡ x ∷ rest)
  rows_first k d ds xs e =
      let one =
      bind_ok (part_at (place (k + 1)) (part k d))
      (λ y. rows_from place part (k + 1) ds >>= λ ys. Ok (y ∷ ys)) xs e in
      let two = bind_ok (rows_from place part (k + 1) ds) (λ ys. Ok (one.0 ∷ ys)) xs one.2 in
      (one.0, two.0, part_ok (place (k + 1)) (part k d) one.0 one.1, two.1, (let h = two.2 in cc))

  more_from : (ds : List Data) (k i : ℕ) (xs : List X) (x : X) (d : Data) → slice_get ds i ≡ Some d
      → rows_from place part k (take i ds) ≡ Ok xs → part (k + i) d ≡ Ok x
      → rows_from place part k (take (suc i) ds) ≡ Ok (xs ++ x ∷ [])
  more_from [] k i xs x d is h e = absurd cc
  more_from (c ∷ ds) k zero xs x d is h e =
      let here : c ≡ d = same_Some c d is in
      let none : xs ≡ [] = cc in
      let at : k + 0 ≡ k = omega arith in
      let first : part k c ≡ Ok x = ap (part k) here ∙ (subst (λ n. part n d ≡ Ok x) at e) in
      joined (place (k + 1)) (part k c) (Ok []) x [] first refl
      ∙ ap (λ (ys : List X). Ok (ys ++ x ∷ [])) (sym none)
  more_from (c ∷ ds) k (suc i) xs x d is h e =
      let parts = rows_first k c (take i ds) xs h in
      let at : k + suc i ≡ (k + 1) + i = omega arith in
      let rest = more_from ds (k + 1) i parts.1 x d is parts.3 (subst (λ n. part n d ≡ Ok x) at e) in
      joined (place (k + 1)) (part k c) (rows_from place part (k + 1) (take (suc i) ds)) parts.0
      (parts.1 ++ x ∷ []) parts.2 rest
      ∙ ap (λ (ys : List X). Ok (ys ++ x ∷ [])) (sym parts.4)

  stop_from : (ds : List Data) (k i : ℕ) (xs : List X) (kind : FaultKind) (d : Data) → slice_get ds i ≡ Some d
      → rows_from place part k (take i ds) ≡ Ok xs → part (k + i) d ≡ Err kind
      → rows_from place part k ds ≡ Err (fault_at (place (k + i + 1)) kind)
  stop_from [] k i xs kind d is h e = absurd cc
  stop_from (c ∷ ds) k zero xs kind d is h e =
      let here : c ≡ d = same_Some c d is in
      let at : k + 0 ≡ k = omega arith in
      let first : part k c ≡ Err kind = ap (part k) here ∙ (subst (λ n. part n d ≡ Err kind) at e) in
      ap
      (λ (q : Part X).
      part_at (place (k + 1)) q >>= λ y. rows_from place part (k + 1) ds >>= λ ys. Ok (y ∷ ys))
      first
      ∙ ap (λ n. Err (fault_at (place (n + 1)) kind)) (sym at)
  stop_from (c ∷ ds) k (suc i) xs kind d is h e =
      let parts = rows_first k c (take i ds) xs h in
      let at : k + suc i ≡ (k + 1) + i = omega arith in
      let rest = stop_from ds (k + 1) i parts.1 kind d is parts.3 (subst (λ n. part n d ≡ Err kind) at e) in
      ap (λ (q : Part X). part_at (place (k + 1)) q >>= λ y. rows_from place part (k + 1) ds
      >>= λ ys. Ok (y ∷ ys)) parts.2
      ∙ ap (λ (r : Result (List X) ScriptFault). r >>= λ ys. Ok (parts.0 ∷ ys)) rest
      ∙ ap (λ n. Err (fault_at (place (n + 1)) kind)) (sym at)

  -- the values of the first i rows, and one more
  pub rows_more : (ds : List Data) (i : ℕ) (xs : List X) (x : X) (d : Data) → slice_get ds i ≡ Some d
      → rows_from place part 0 (take i ds) ≡ Ok xs → part i d ≡ Ok x
      → rows_from place part 0 (take (i + 1) ds) ≡ Ok (xs ++ x ∷ [])
  rows_more ds i xs x d is h e =
      let at : suc i ≡ i + 1 = omega arith in subst
      (λ n. rows_from place part 0 (take n ds) ≡ Ok (xs ++ x ∷ [])) at
      (more_from ds 0 i xs x d is h (subst (λ n. part n d ≡ Ok x) (from_zero i) e))

  -- the first i rows have values, and row i is the first with a fault
  pub rows_stop : (ds : List Data) (i : ℕ) (xs : List X) (kind : FaultKind) (d : Data)
      → slice_get ds i ≡ Some d → rows_from place part 0 (take i ds) ≡ Ok xs → part i d ≡ Err kind
      → rows_from place part 0 ds ≡ Err (fault_at (place (i + 1)) kind)
  rows_stop ds i xs kind d is h e =
      stop_from ds 0 i xs kind d is h (subst (λ n. part n d ≡ Err kind) (from_zero i) e)
      ∙ ap (λ n. Err (fault_at (place (n + 1)) kind)) (sym (from_zero i))

  length_from : (ds : List Data) (k : ℕ) (xs : List X) → rows_from place part k ds ≡ Ok xs
      → length xs ≡ length ds
  length_from [] k xs h = let none : xs ≡ [] = cc in ap length none
  length_from (d ∷ ds) k xs h =
      let parts = rows_first k d ds xs h in
      ap length parts.4 ∙ ap suc (length_from ds (k + 1) parts.1 parts.3)

  pub rows_length : (ds : List Data) (xs : List X) → rows_from place part 0 ds ≡ Ok xs → length xs ≡ length ds
  rows_length ds xs h = length_from ds 0 xs h

  at_from : (ds : List Data) (k : ℕ) (xs : List X) (i : ℕ) (d : Data) → rows_from place part k ds ≡ Ok xs
      → slice_get ds i ≡ Some d → (x : X) × (slice_get xs i ≡ Some x) × (part (k + i) d ≡ Ok x)
  at_from [] k xs i d h is = absurd cc
  at_from (c ∷ ds) k xs zero d h is =
      let parts = rows_first k c ds xs h in
      let here : c ≡ d = same_Some c d is in
      let at : k ≡ k + 0 = omega arith in (
        parts.0,
        ap (λ (ys : List X). slice_get ys 0) parts.4,
        subst (λ n. part n d ≡ Ok parts.0) at (ap (part k) (sym here) ∙ parts.2),
      )
  at_from (c ∷ ds) k xs (suc i) d h is =
      let parts = rows_first k c ds xs h in
      let rest = at_from ds (k + 1) parts.1 i d parts.3 is in
      let at : (k + 1) + i ≡ k + suc i = omega arith in (
        rest.0,
        ap (λ (ys : List X). slice_get ys (suc i)) parts.4 ∙ rest.1,
        subst (λ n. part n d ≡ Ok rest.0) at rest.2,
      )

  -- the value of the row at a place
  pub rows_at : (ds : List Data) (xs : List X) (i : ℕ) (d : Data) → rows_from place part 0 ds ≡ Ok xs
      → slice_get ds i ≡ Some d → (x : X) × (slice_get xs i ≡ Some x) × (part i d ≡ Ok x)
  rows_at ds xs i d h is =
      let found = at_from ds 0 xs i d h is in
      (found.0, found.1, subst (λ n. part n d ≡ Ok found.0) (sym (from_zero i)) found.2)
