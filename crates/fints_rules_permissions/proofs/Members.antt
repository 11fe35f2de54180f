-- What is in joined, mapped and filtered lists.
use Rattle.std.proofs.Common.{◌≡◌, ◌⊎◌, zero, suc, ◌<◌, Bool, true, List, [], ◌∷◌, ◌++◌, length, get_or, map, refl, ap, ◌∙◌, sym, subst, arith, inl, inr}
use Rattle.std.specs.Prelude.{All, Any, Contains, filter}
use Rattle.std.specs.List.{flat_map}
use Rattle.std.proofs.lemmas.Bool.{cases_Bool}
use Rattle.std.proofs.lemmas.List.{get_or-map, get_or_default, length-map}
use Rattle.std.proofs.lemmas.List.Elements.{Contains-append_left, Contains-append_right, Contains-append_cases}

pub cons_cases : {X : Type 0} (x : X) (xs : List X) (y : X) → Contains (x ∷ xs) y → (x ≡ y) ⊎ Contains xs y
cons_cases x xs y (zero, lt, is) = inl is
cons_cases x xs y (suc k, lt, is) = inr (k, omega arith, is)

pub cons_more : {X : Type 0} (x : X) (xs : List X) (y : X) → Contains xs y → Contains (x ∷ xs) y
cons_more x xs y h = Contains-append_right (x ∷ []) xs y h

pub none_in : {X : Type 0} (x : X) → Contains [] x → ⊥
none_in x (k, lt, is) = absurd (omega arith)

pub cons_first : {X : Type 0} (x : X) (xs : List X) → Contains (x ∷ xs) x
cons_first x xs = (0, omega arith, refl)

pub to_flat_map : {X A : Type 0} (f : X → List A) (xs : List X) (x : X) (a : A)
    → Contains xs x → Contains (f x) a
    → Contains (flat_map f xs) a
to_flat_map f [] x a (k, lt, is) h = absurd (omega arith)
to_flat_map f (y ∷ ys) x a among h = elim (cons_cases y ys x among) [
  | inl e ↦ Contains-append_left (f y) (flat_map f ys) a (subst (λ z. Contains (f z) a) (sym e) h)
  | inr c ↦ Contains-append_right (f y) (flat_map f ys) a (to_flat_map f ys x a c h)
]

pub from_flat_map : {X A : Type 0} (f : X → List A) (xs : List X) (a : A) → Contains (flat_map f xs) a
    → (x : X) × Contains xs x × Contains (f x) a
from_flat_map f [] a (k, lt, is) = absurd (omega arith)
from_flat_map f (y ∷ ys) a h = elim (Contains-append_cases (f y) (flat_map f ys) a h) [
  | inl c ↦ (y, cons_first y ys, c)
  | inr c ↦ let (x, among, at) = from_flat_map f ys a c in (x, cons_more y ys x among, at)
]

pub to_map : {X S : Type 0} (f : X → S) (xs : List X) (x : X) → Contains xs x → Contains (map f xs) (f x)
to_map f xs x (k, lt, is) = (k, omega (arith, length-map xs f), get_or-map f xs k x (f x) lt ∙ ap f is)

pub from_map : {X S : Type 0} (f : X → S) (xs : List X) (s : S) → Contains (map f xs) s
    → (x : X) × Contains xs x × (f x ≡ s)
from_map f [] s (k, lt, is) = absurd (omega arith)
from_map f (y ∷ ys) s (k, lt, is) =
    let lt' : k < length (y ∷ ys) = omega (arith, length-map (y ∷ ys) f) in
    let x = get_or (y ∷ ys) k y in
    (x, (k, lt', get_or_default (y ∷ ys) k x y lt'), sym (get_or-map f (y ∷ ys) k y s lt') ∙ is)

pub to_filter : {X : Type 0} (p : X → Bool) (xs : List X) (x : X) → Contains xs x → p x ≡ true
    → Contains (filter p xs) x
to_filter p [] x among h = absurd (none_in x among)
to_filter p (y ∷ ys) x among h = elim (cons_cases y ys x among) [
  | inl e ↦ let t : p y ≡ true = ap p e ∙ h in rw t (subst (Contains (y ∷ filter p ys)) e (cons_first y (filter p ys)))
  | inr c ↦
      elim (cases_Bool (p y)) [
        | inl t ↦ rw t (cons_more y (filter p ys) x (to_filter p ys x c h))
        | inr f ↦ rw f (to_filter p ys x c h)
      ]
]

pub from_filter : {X : Type 0} (p : X → Bool) (xs : List X) (x : X) → Contains (filter p xs) x
    → Contains xs x × (p x ≡ true)
from_filter p [] x among = absurd (none_in x among)
from_filter p (y ∷ ys) x among = elim (cases_Bool (p y)) [
  | inl t ↦
      let there : Contains (y ∷ filter p ys) x = rw t at among in
      elim (cons_cases y (filter p ys) x there) [
        | inl e ↦ (subst (Contains (y ∷ ys)) e (cons_first y ys), ap p (sym e) ∙ t)
        | inr c ↦ let r = from_filter p ys x c in (cons_more y ys x r.0, r.1)
      ]
  | inr f ↦
      let there : Contains (filter p ys) x = rw f at among in
      let r = from_filter p ys x there in (cons_more y ys x r.0, r.1)
]

pub nothing_in : {X : Type 0} (xs : List X) → ((x : X) → Contains xs x → ⊥) → xs ≡ []
nothing_in [] h = refl
nothing_in (x ∷ xs) h = absurd (h x (cons_first x xs))

pub all_in : {X : Type 0} (P : X → Type 0) (xs : List X) → ((x : X) → Contains xs x → P x) → All P xs
all_in P xs h = λ k d lt. h (get_or xs k d) (k, lt, get_or_default xs k (get_or xs k d) d lt)

pub in_all : {X : Type 0} (P : X → Type 0) (xs : List X) (x : X) → All P xs → Contains xs x → P x
in_all P xs x all (k, lt, is) = subst P is (all k x lt)

pub any_in : {X : Type 0} (P : X → Type 0) (xs : List X) (x : X) → Contains xs x → P x → Any P xs
any_in P xs x (k, lt, is) h = (k, x, lt, is, h)

pub in_any : {X : Type 0} (P : X → Type 0) (xs : List X) → Any P xs → (x : X) × Contains xs x × P x
in_any P xs (k, x, lt, is, h) = (x, (k, lt, is), h)

pub any_more : {X : Type 0} (P : X → Type 0) (xs : List X) (x : X) → Any P xs → Any P (xs ++ x ∷ [])
any_more P xs x (k, y, lt, at, h) = let c = Contains-append_left xs (x ∷ []) y (k, lt, at) in (c.0, y, c.1, c.2, h)
