-- The places of a list's items that have a name, as items are looked at.
use Rattle.std.proofs.Common.{◌≡◌, ℕ, All, ◌+◌, ◌<◌, ◌≤◌, Bool, true, false, ◌&&◌, cond, List, [], ◌∷◌, ◌++◌, length, get_or, take, nat_lt, map, codes, Option, Some, None, refl, ap, subst, sym, ◌∙◌, inl, inr, arith, zero, suc}
use Rattle.std.specs.Prelude.{is_some, position, option_and_then}
use Rattle.std.specs.List.{position_or_len, list_any}
use Rattle.std.specs.Str.{bytes_eq}
use Rattle.std.proofs.Math.Seq.{take-length}
use Rattle.std.proofs.lemmas.Bool.{cases_Bool, false≢true}
use Rattle.std.proofs.lemmas.Bool.Decides.{nat_tests}
use Rattle.std.proofs.lemmas.List.{take_more, length_push, length-take-le, length-map, get_or-map}
use Rattle.std.proofs.lemmas.List.Folds.{position_or_len_push, list_any_none}
use Rattle.std.proofs.lemmas.List.Elements.{All-push}
use Rattle.std.proofs.lemmas.Slice.Eq.{bytes_eq-Decides}
use Rattle.toml.specs.declared.value.Value.{Value}
use Rattle.toml.specs.Data.{Data, string, integer, float, boolean, datetime, array, table, get_member, as_str}
use Rattle.toml.specs.View.{view}
use Rattle.fints_script_fields.specs.Names.{IsName}
use Rattle.fints_script_rows.specs.declared.fields.NamedField.{NamedField}
use Rattle.fints_script_rows.specs.NamedFields.{AreNamed, is_field_named, place_of_field}
use Rattle.fints_syntax_texts.specs.Entries.{holds_text, is_called, name_in}
use Rattle.fints_script_rows.specs.Places.{first_place}

module _ {X : Type 0} (p : X → Bool) where
  within : (xs : List X) → position_or_len p xs ≤ length xs
  within [] = omega arith
  within (x ∷ xs) =
      let rest = within xs in
      elim (cases_Bool (p x)) [
        | inl passes ↦ grind (arith, nat_tests)
        | inr fails ↦ grind (arith, nat_tests)
      ]

  -- with one more at the end
  place_push : (xs : List X) (y : X)
      → position p (xs ++ y ∷ []) ≡ first_place (position p xs) (p y) (length xs)
  place_push xs y =
      let le = within xs in
      let longer = length_push xs y in
      let pushed = position_or_len_push p xs y in
      elim (cases_Bool (p y)) [
        | inl passes ↦ grind (arith, nat_tests)
        | inr fails ↦ grind (arith, nat_tests)
      ]

  -- with the item at i
  pub place_more : (xs : List X) (i : ℕ) (d : X) (o : Option ℕ) → i < length xs → o ≡ position p (take i xs)
      → first_place o (p (get_or xs i d)) i ≡ position p (take (i + 1) xs)
  place_more xs i d o here is =
      ap (λ (q : Option ℕ). first_place q (p (get_or xs i d)) i) is
      ∙ ap (first_place (position p (take i xs)) (p (get_or xs i d))) (sym (length-take-le i xs (omega arith)))
      ∙ sym (ap (position p) (take_more xs i d here) ∙ place_push (take i xs) (get_or xs i d))

  -- one of the first n passes where the first that passes is one of them
  pub any_before : (n : ℕ) (xs : List X)
      → list_any p
      (take n xs) ≡ (nat_lt (position_or_len p xs) n && nat_lt (position_or_len p xs) (length xs))
  any_before zero xs = grind (arith, nat_tests)
  any_before (suc n) [] = grind (arith, nat_tests)
  any_before (suc n) (x ∷ xs) =
      let rest = any_before n xs in
      elim (cases_Bool (p x)) [
        | inl passes ↦ grind (arith, nat_tests)
        | inr fails ↦ grind (arith, nat_tests)
      ]

  both : (b : Bool) (n : ℕ) → (b && b) ≡ is_some (cond b (Some n) None)
  both true n = refl
  both false n = refl

  pub any_found : (xs : List X) → list_any p xs ≡ is_some (position p xs)
  any_found xs = sym (ap (list_any p) (take-length xs)) ∙ any_before (length xs) xs ∙ both (nat_lt (position_or_len p xs) (length xs)) (position_or_len p xs)

  at_some : (b : Bool) (m k : ℕ) → cond b (Some m) None ≡ Some k → (b ≡ true) × (m ≡ k)
  at_some true m k h = (refl, some_is h)
    where
      some_is : Some m ≡ Some k → m ≡ k
      some_is e = cc
  at_some false m k h = cc

  at_none : (b : Bool) (m : ℕ) → cond b (Some m) None ≡ None → b ≡ false
  at_none true m h = cc
  at_none false m h = refl

  pub before_some : (xs : List X) (n k : ℕ) → position p xs ≡ Some k → list_any p (take n xs) ≡ nat_lt k n
  before_some xs n k h =
      let at = at_some (nat_lt (position_or_len p xs) (length xs)) (position_or_len p xs) k h in
      any_before n xs ∙ ap (λ b. nat_lt (position_or_len p xs) n && b) at.0 ∙ both_true (nat_lt (position_or_len p xs) n) ∙ ap (λ m. nat_lt m n) at.1
    where
      both_true : (b : Bool) → (b && true) ≡ b
      both_true true = refl
      both_true false = refl

  pub before_none : (xs : List X) (n : ℕ) → position p xs ≡ None → list_any p (take n xs) ≡ false
  before_none xs n h =
      any_before n xs
      ∙ ap (λ b. nat_lt (position_or_len p xs) n && b)
      (at_none (nat_lt (position_or_len p xs) (length xs)) (position_or_len p xs) h)
      ∙ never (nat_lt (position_or_len p xs) n)
    where
      never : (b : Bool) → (b && false) ≡ false
      never true = refl
      never false = refl

  none_of : (o : Option ℕ) → is_some o ≡ false → o ≡ None
  none_of None h = refl
  none_of (Some n) h = absurd (false≢true (sym h))

  -- where no item passes, there is no first
  pub nowhere : (xs : List X) → All (λ x. p x ≡ false) xs → position p xs ≡ None
  nowhere xs fails = none_of (position p xs) (sym (any_found xs) ∙ list_any_none p xs fails)

-- an item without a name changes nothing
pub nameless : (o : Option ℕ) (i : ℕ) → first_place o false i ≡ o
nameless None i = refl
nameless (Some n) i = refl

turned : (a b : List ℕ) (t : Bool) → bytes_eq a b ≡ t → bytes_eq b a ≡ t
turned a b true h = (bytes_eq-Decides b a).1 (sym ((bytes_eq-Decides a b).0 h))
turned a b false h = elim (cases_Bool (bytes_eq b a)) [
  | inl e ↦ absurd (false≢true (sym h ∙ (bytes_eq-Decides a b).1 (sym ((bytes_eq-Decides b a).0 e))))
  | inr e ↦ e
]

-- what a map has, in which a name is noted that was not there
pub noted : (found now : List ℕ → Option ℕ) (name : List ℕ) (i : ℕ) → is_some (found name) ≡ false
    → ((q : List ℕ) → now q ≡ cond (bytes_eq name q) (Some i) (found q)) → (q : List ℕ)
    → now q ≡ first_place (found q) (bytes_eq q name) i
noted found now name i new updates q = elim (cases_Bool (bytes_eq name q)) [
  | inl same ↦
      let gone : is_some (found q) ≡ false = ap (λ n. is_some (found n)) (sym ((bytes_eq-Decides name q).0 same)) ∙ new in
      updates q ∙ ap (λ t. cond t (Some i) (found q)) same
      ∙ sym (ap (λ t. cond t (found q) (cond (bytes_eq q name) (Some i) None)) gone
      ∙ ap (λ t. cond t (Some i) None) (turned name q true same))
  | inr other ↦
      updates q ∙ ap (λ t. cond t (Some i) (found q)) other ∙ sym (ap (λ t. first_place (found q) t i) (turned name q false other) ∙ nameless (found q) i)
]

-- ---- names of rows

text_of : (q n : List ℕ) (o : Option Data) → Some n ≡ option_and_then as_str o → holds_text q o ≡ bytes_eq q n
text_of q n None h = cc
text_of q n (Some (string t)) h = ap (bytes_eq q) (sym (some_is h))
  where
    some_is : Some n ≡ Some t → n ≡ t
    some_is e = cc
text_of q n (Some (integer i)) h = cc
text_of q n (Some (float i)) h = cc
text_of q n (Some (boolean i)) h = cc
text_of q n (Some (datetime i)) h = cc
text_of q n (Some (array i)) h = cc
text_of q n (Some (table i)) h = cc

no_text : (q : List ℕ) (o : Option Data) → None ≡ option_and_then as_str o → holds_text q o ≡ false
no_text q None h = refl
no_text q (Some (string t)) h = cc
no_text q (Some (integer i)) h = refl
no_text q (Some (float i)) h = refl
no_text q (Some (boolean i)) h = refl
no_text q (Some (datetime i)) h = refl
no_text q (Some (array i)) h = refl
no_text q (Some (table i)) h = refl

pub named_as : (q n : List ℕ) (row : Data) → Some n ≡ name_in row → is_called q row ≡ bytes_eq q n
named_as q n (table ms) h = text_of q n (get_member (codes "name") ms) h
named_as q n (string t) h = cc
named_as q n (integer i) h = cc
named_as q n (float i) h = cc
named_as q n (boolean i) h = cc
named_as q n (datetime i) h = cc
named_as q n (array i) h = cc

pub not_named : (q : List ℕ) (row : Data) → None ≡ name_in row → is_called q row ≡ false
not_named q (table ms) h = no_text q (get_member (codes "name") ms) h
not_named q (string t) h = refl
not_named q (integer i) h = refl
not_named q (float i) h = refl
not_named q (boolean i) h = refl
not_named q (datetime i) h = refl
not_named q (array i) h = refl

-- the first row of a name, with the row at i
pub row_more : (rows : List Value) (i : ℕ) (d : Value) (q : List ℕ) (o : Option ℕ) (has : Bool)
    → i < length rows → is_called q (view (get_or rows i d)) ≡ has
    → o ≡ position (is_called q) (take i (map view rows))
    → first_place o has i ≡ position (is_called q) (take (i + 1) (map view rows))
row_more rows i d q o has here named so_far =
    ap (λ t. first_place o t i) (sym named ∙ ap (is_called q) (sym (get_or-map view rows i d (view d) here)))
    ∙ place_more (is_called q) (map view rows) i (view d) o (subst (λ n. i < n) (sym (length-map rows view)) here) so_far

-- ---- names of fields

-- a text that is no name is that of no field
pub no_field : (fields : List NamedField) (text : List ℕ) → (IsName text → ⊥) → AreNamed fields
    → place_of_field fields text ≡ None
no_field fields text bad named =
    nowhere (is_field_named text) fields
    (λ i d lt. elim (cases_Bool (bytes_eq text (get_or fields i d).name)) [
      | inl same ↦ absurd (bad (subst IsName (sym ((bytes_eq-Decides text (get_or fields i d).name).0 same)) (named i d lt)))
      | inr other ↦ other
    ])

pub named_more : (fields : List NamedField) (i : ℕ) (d : NamedField) → i < length fields
    → AreNamed (take i fields) → IsName (get_or fields i d).name → AreNamed (take (i + 1) fields)
named_more fields i d here before is =
    subst AreNamed (sym (take_more fields i d here)) (All-push (λ (field : NamedField). IsName field.name) (take i fields) (get_or fields i d) before is)
