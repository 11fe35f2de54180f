-- The nearest, one place further on.
use Rattle.std.proofs.Common.{◌≡◌, ◌∙◌, ap, sym, refl, Bool, true, false, List, [], ◌∷◌, ◌++◌, map, if◌then◌else◌, Option, Some, None}
use Rattle.std.specs.List.{AllByRecursion}
use Rattle.std.specs.Option.{option_or, option_map}
use Rattle.fints_rules_dialogues.specs.Nearest.{first_in, last_in, nearest}

or_none : {A : Type 0} (o : Option A) → option_or o None ≡ o
or_none None = refl
or_none (Some x) = refl

or_three : {A : Type 0} (a b c : Option A) → option_or (option_or a b) c ≡ option_or a (option_or b c)
or_three None b c = refl
or_three (Some x) b c = refl

last_push : {A : Type 0} (p : A → Bool) (xs : List A) (x : A)
    → last_in p (xs ++ x ∷ []) ≡ option_or (if p x then Some x else None) (last_in p xs)
last_push p [] x = sym (or_none _)
last_push p (y ∷ xs) x = ap (λ o. option_or o (if p y then Some y else None)) (last_push p xs x) ∙ or_three _ (last_in p xs) _

pass_or : {A : Type 0} (b : Bool) (x : A) (l f : Option A)
    → option_or (option_or (if b then Some x else None) l) f
    ≡ (if b then Some x else option_or l (if b then Some x else f))
pass_or true x l f = refl
pass_or false x l f = refl

-- one that passes is the nearest at the place after it; else nothing changes
pub nearest_step : {A : Type 0} (p : A → Bool) (before : List A) (x : A) (after : List A)
    → nearest p (before ++ x ∷ []) after ≡ (if p x then Some x else nearest p before (x ∷ after))
nearest_step p before x after =
    ap (λ l. option_or l (first_in p after)) (last_push p before x) ∙ pass_or (p x) x (last_in p before) (first_in p after)

-- the first, where one more comes after them
or_first : {A : Type 0} (b : Bool) (y : A) (f o : Option A)
    → (if b then Some y else option_or f o) ≡ option_or (if b then Some y else f) o
or_first true y f o = refl
or_first false y f o = refl

pub first_push : {A : Type 0} (p : A → Bool) (xs : List A) (x : A)
    → first_in p (xs ++ x ∷ []) ≡ option_or (first_in p xs) (if p x then Some x else None)
first_push p [] x = refl
first_push p (y ∷ xs) x =
    ap (λ o. if p y then Some y else o) (first_push p xs x)
    ∙ or_first (p y) y (first_in p xs) (if p x then Some x else None)

if_true : {A : Type 0} (b : Bool) (x y : A) → b ≡ true → (if b then x else y) ≡ x
if_true true x y e = refl
if_true false x y e = absurd (let k : false ≡ true = e in cc)

passed_by : {A : Type 0} (b : Bool) (x : A) (o : Option A) → (if b then Some x else o) ≡ None → o ≡ None
passed_by true x o e = absurd (let k : Some x ≡ None = e in cc)
passed_by false x o e = e

failed : {A : Type 0} (b : Bool) (x : A) (o : Option A) → (if b then Some x else o) ≡ None → b ≡ false
failed true x o e = absurd (let k : Some x ≡ None = e in cc)
failed false x o e = refl

-- one that passes after some that all fail
pub first_found : {A : Type 0} (p : A → Bool) (front : List A) (x : A) (back : List A)
    → first_in p front ≡ None → p x ≡ true → first_in p (front ++ x ∷ back) ≡ Some x
first_found p [] x back none e = if_true (p x) _ _ e
first_found p (y ∷ front) x back none e =
    let later = first_found p front x back (passed_by (p y) y _ none) e in
    rw (failed (p y) y _ none) later

pub none_more : {A : Type 0} (p : A → Bool) (front : List A) (x : A) → first_in p front ≡ None → p x ≡ false
    → first_in p (front ++ x ∷ []) ≡ None
none_more p front x none e = rw (first_push p front x, none, e) refl

-- the first among values, by those that have them
pub first_of_map : {A B : Type 0} (p : B → Bool) (f : A → B) (xs : List A)
    → first_in p (map f xs) ≡ option_map f (first_in (λ x. p (f x)) xs)
first_of_map p f [] = refl
first_of_map p f (x ∷ xs) = by_first (p (f x)) (first_of_map p f xs)
  where
    by_first : (b : Bool) → first_in p (map f xs) ≡ option_map f (first_in (λ x. p (f x)) xs)
        → (if b then Some (f x) else first_in p (map f xs)) ≡ option_map f (if b then Some x else first_in (λ x. p (f x)) xs)
    by_first true e = refl
    by_first false e = e

or_map : {A B : Type 0} (f : A → B) (a b : Option A)
    → option_or (option_map f a) (option_map f b) ≡ option_map f (option_or a b)
or_map f None b = refl
or_map f (Some x) b = refl

if_map : {A B : Type 0} (f : A → B) (b : Bool) (x : A)
    → (if b then Some (f x) else None) ≡ option_map f (if b then Some x else None)
if_map f true x = refl
if_map f false x = refl

last_of_map : {A B : Type 0} (p : B → Bool) (f : A → B) (xs : List A)
    → last_in p (map f xs) ≡ option_map f (last_in (λ x. p (f x)) xs)
last_of_map p f [] = refl
last_of_map p f (x ∷ xs) =
    ap (λ o. option_or o (if p (f x) then Some (f x) else None)) (last_of_map p f xs)
    ∙ ap (λ o. option_or (option_map f (last_in (λ x. p (f x)) xs)) o) (if_map f (p (f x)) x)
    ∙ or_map f (last_in (λ x. p (f x)) xs) (if p (f x) then Some x else None)

-- the nearest among values, by those that have them
pub nearest_of_map : {A B : Type 0} (p : B → Bool) (f : A → B) (before after : List A)
    → nearest p (map f before) (map f after) ≡ option_map f (nearest (λ x. p (f x)) before after)
nearest_of_map p f before after =
    ap (λ o. option_or o (first_in p (map f after))) (last_of_map p f before)
    ∙ ap (λ o. option_or (option_map f (last_in (λ x. p (f x)) before)) o) (first_of_map p f after)
    ∙ or_map f (last_in (λ x. p (f x)) before) (first_in (λ x. p (f x)) after)

-- what holds of each holds of the nearest
abbrev pub HoldsOf : {A : Type 0} → (A → Type 0) → Option A → Type 0
HoldsOf P None = Unit {0}
HoldsOf P (Some x) = P x

if_holds : {A : Type 0} (P : A → Type 0) (b : Bool) (x : A) (o : Option A) → P x → HoldsOf P o
    → HoldsOf P (if b then Some x else o)
if_holds P true x o h k = h
if_holds P false x o h k = k

or_holds : {A : Type 0} (P : A → Type 0) (a b : Option A) → HoldsOf P a → HoldsOf P b → HoldsOf P (option_or a b)
or_holds P None b h k = k
or_holds P (Some x) b h k = h

first_holds : {A : Type 0} (P : A → Type 0) (p : A → Bool) (xs : List A) → AllByRecursion P xs
    → HoldsOf P (first_in p xs)
first_holds P p [] h = tt
first_holds P p (x ∷ xs) h = if_holds P (p x) x (first_in p xs) h.0 (first_holds P p xs h.1)

last_holds : {A : Type 0} (P : A → Type 0) (p : A → Bool) (xs : List A) → AllByRecursion P xs
    → HoldsOf P (last_in p xs)
last_holds P p [] h = tt
last_holds P p (x ∷ xs) h =
    or_holds P (last_in p xs) (if p x then Some x else None) (last_holds P p xs h.1) (if_holds P (p x) x None h.0 tt)

pub nearest_holds : {A : Type 0} (P : A → Type 0) (p : A → Bool) (before after : List A)
    → AllByRecursion P before → AllByRecursion P after → HoldsOf P (nearest p before after)
nearest_holds P p before after h k =
    or_holds P (last_in p before) (first_in p after) (last_holds P p before h) (first_holds P p after k)
