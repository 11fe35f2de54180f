-- What parts that have a value have in them.
use Rattle.std.proofs.Common.{◌≡◌, ℕ, suc, ◌<◌, ◌≤◌, Bool, true, false, ◌&&◌, cond, List, [], ◌∷◌, length, get_or, nat_le, nat_lt, All, Option, Some, None, Result, Ok, Err, refl, ap, subst, sym, ◌∙◌, inl, inr, arith}
use Rattle.std.specs.Prelude.{slice_get, pos}
use Rattle.std.proofs.lemmas.Bool.{and_parts, cases_Bool}
use Rattle.std.proofs.lemmas.Bool.Decides.{nat_tests}
use Rattle.std.proofs.lemmas.Option.{none-some, same_Some, slice_get_within, slice_get-get_or}
use Rattle.toml.specs.Data.{Data, integer}
use Rattle.fints_syntax_texts.specs.Document.{number_between}
use Rattle.fints_script_rows.specs.PartLaws.{bind_ok, each_all, or_ok, rows_at, rows_length}
use Rattle.fints_script_rows.specs.Parts.{Part, ◌>>=◌, at_most, each, entries_of, integer_in, not_empty, optional}
use Rattle.fints_script_rows.specs.Rows.{part_at, rows_from}
use Rattle.fints_script_rows.specs.declared.fault.FaultKind.TheVariants as kinds
use Rattle.fints_script_rows.specs.declared.fault.Place.{Place}
use Rattle.fints_script.specs.Numbered.{numbered_at}

-- ---- values and faults

pub same_ok : {X F : Type 0} (x y : X) → ◌≡◌ {A = Result X F} (Ok x) (Ok y) → x ≡ y
same_ok x y e = cc

pub same_err : {X F : Type 0} (f g : F) → ◌≡◌ {A = Result X F} (Err f) (Err g) → f ≡ g
same_err f g e = cc

pub ok_err : {X F : Type 0} (x : X) (f : F) → ◌≡◌ {A = Result X F} (Ok x) (Err f) → ⊥
ok_err x f e = cc

-- a test that is to pass, and passed
pub passed : {X F : Type 0} (b : Bool) (p : Result X F) (fault : F) (x : X) → cond b p (Err fault) ≡ Ok x
    → (b ≡ true) × (p ≡ Ok x)
passed true p fault x e = (refl, e)
passed false p fault x e = absurd cc

-- a test that is to fail, and failed
pub failed : {X F : Type 0} (b : Bool) (p : Result X F) (fault : F) (x : X) → cond b (Err fault) p ≡ Ok x
    → (b ≡ false) × (p ≡ Ok x)
failed true p fault x e = absurd cc
failed false p fault x e = (refl, e)

-- what an absent part gives, and what the part gives
pub optional_ok : {X : Type 0} (absent : X) (part : Data → Part X) (P : X → Type 0) → P absent
    → ((d : Data) (x : X) → part d ≡ Ok x → P x) → (o : Option Data) (x : X) → optional absent part o ≡ Ok x
    → P x
optional_ok absent part P none some None x e = subst P (same_ok absent x e) none
optional_ok absent part P none some (Some d) x e = some d x e

-- ---- numbers and lists

pub not_past : (m n : ℕ) → nat_lt m n ≡ false → n ≤ m
not_past m n h = grind (arith, nat_tests)

between : (low high n m : ℕ) → number_between low high (integer (pos n)) ≡ Some m → (low ≤ m) × (m ≤ high)
between low high n m e = elim (cases_Bool (nat_le low n && nat_le n high)) [
  | inl t ↦
      let parts = and_parts (nat_le low n) (nat_le n high) t in
      let least : nat_le low n ≡ true = parts.0 in
      let most : nat_le n high ≡ true = parts.1 in
      let is : n ≡ m = same_Some n m (ap (λ b. cond b (Some n) None) (sym t) ∙ e) in
      subst (λ k. (low ≤ k) × (k ≤ high)) is (grind (arith, nat_tests), grind (arith, nat_tests))
  | inr f ↦ absurd (none-some m (ap (λ b. cond b (Some n) None) (sym f) ∙ e))
]

pub integer_ok : (low high : ℕ) (d : Data) (n : ℕ) → integer_in low high d ≡ Ok n → (low ≤ n) × (n ≤ high)
integer_ok low high (integer (pos m)) n e = between low high m n (or_ok (number_between low high (integer (pos m))) kinds.Limit n e)
integer_ok low high _ n e = absurd cc

pub at_most_ok : {X : Type 0} (most : ℕ) (xs ys : List X) → at_most most xs ≡ Ok ys
    → (xs ≡ ys) × (length ys ≤ most)
at_most_ok most xs ys e =
    let few = failed (nat_lt most (length xs)) (Ok xs) kinds.Limit ys e in
    let is = same_ok xs ys few.1 in
    (is, subst (λ (zs : List _). length zs ≤ most) is (not_past most (length xs) few.0))

pub not_empty_ok : {X : Type 0} (xs ys : List X) → not_empty xs ≡ Ok ys → (xs ≡ ys) × (0 < length ys)
not_empty_ok [] ys e = absurd cc
not_empty_ok (x ∷ xs) ys e = let is = same_ok (x ∷ xs) ys e in (is, subst (λ (zs : List _). 0 < length zs) is (omega arith))

-- what holds of each value of a part holds of the values of a list, and they are no more than they may be
pub list_ok : {X : Type 0} (most : ℕ) (part : Data → Part X) (P : X → Type 0)
    → ((d : Data) (x : X) → part d ≡ Ok x → P x) → (d : Data) (xs : List X)
    → (entries_of d >>= each part >>= at_most most) ≡ Ok xs → All P xs × (length xs ≤ most)
list_ok most part P has d xs e =
    let read = bind_ok (entries_of d >>= each part) (at_most most) xs e in
    let entries = bind_ok (entries_of d) (each part) read.0 read.1 in
    let few = at_most_ok most read.0 xs read.2 in
    (subst (All P) few.0 (each_all part P has entries.0 read.0 entries.2), few.1)

-- ---- rows

pub placed_ok : {X : Type 0} (place : Place) (p : Part X) (x : X) → part_at place p ≡ Ok x → p ≡ Ok x
placed_ok place (Ok y) x e = cc
placed_ok place (Err kind) x e = absurd cc

module _ {X : Type 0} (place : ℕ → Place) (part : ℕ → Data → Part X) where
  -- the row that has the value at a place
  pub row_of : (ds : List Data) (xs : List X) (i : ℕ) (x : X) → rows_from place part 0 ds ≡ Ok xs
      → slice_get xs i ≡ Some x → (d : Data) × (slice_get ds i ≡ Some d) × (part i d ≡ Ok x)
  row_of ds xs i x h is =
      let within = slice_get_within xs i x is in
      let same = rows_length place part ds xs h in
      let row = numbered_at ds (suc i) (omega arith) (omega (arith, within, same)) in
      let given = rows_at place part ds xs i row.0 h row.1 in
      (row.0, row.1, given.2 ∙ ap Ok (same_Some given.0 x (sym given.1 ∙ is)))

  -- what holds of what each row gives
  pub rows_all : (P : X → Type 0) → ((i : ℕ) (d : Data) (x : X) → part i d ≡ Ok x → P x)
      → (ds : List Data) (xs : List X) → rows_from place part 0 ds ≡ Ok xs → All P xs
  rows_all P has ds xs h k x within =
      let row = row_of ds xs k (get_or xs k x) h (slice_get-get_or xs k x within) in
      has k row.0 (get_or xs k x) row.2
