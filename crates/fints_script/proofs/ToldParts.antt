-- Values by their types, tables by their keys, names and fields give the first kind of fault in them.
use Rattle.std.proofs.Common.{◌≡◌, ℕ, ◌<◌, ◌≤◌, Bool, true, false, ◌&&◌, ◌||◌, cond, codes, List, [], ◌∷◌, length, nat_lt, nat_le, Option, Some, None, Ok, Err, refl, ap, subst, sym, ◌∙◌, inl, inr, arith, ◌⊎◌}
use Rattle.std.specs.Prelude.{ok_or}
use Rattle.std.specs.Cmp.Lexicographic.{pointwise}
use Rattle.std.specs.List.{list_all}
use Rattle.std.specs.Str.{bytes_eq}
use Rattle.std.proofs.lemmas.Bool.{and_parts}
use Rattle.std.proofs.lemmas.Bool.Decides.{nat_tests}
use Rattle.toml.specs.Data.{Data, string, integer, array, table, Members, get_member}
use Rattle.fints_syntax_texts.specs.Document.{item_list, number_between, only_keys}
use Rattle.fints_script_fields.specs.Names.{is_name}
use Rattle.fints_script_fields.specs.declared.counted.TheConstants.{MAX_LEN}
use Rattle.fints_script_rows.specs.FaultOrder.{rank}
use Rattle.fints_script_rows.specs.Fields.{ClassValue, text as text_class, bin, oneof, account, account_in, account_of, class_name_in, class_of, class_with, field_in, field_keys, is_item_count, is_short, is_taken_field, is_value_count, length_at, lengths_in, listed_in, listing, sized, some_are_same, table_field, text_in}
use Rattle.fints_script_rows.specs.PartLaws.{both_ok, each_length, first_and_rest}
use Rattle.fints_script_rows.specs.Parts.{Part, ◌>>=◌, at_most, each, entries_of, integer_in, may, must, not_empty, optional}
use Rattle.fints_script_rows.specs.RowNames.{new_name, row_name, text_of_name}
use Rattle.fints_script_rows.specs.Texts.{is_latin1, latin1}
use Rattle.fints_script_rows.specs.declared.fault.FaultKind.{FaultKind}
use Rattle.fints_script_rows.specs.declared.fault.FaultKind.TheVariants as kinds
use Rattle.fints_script_rows.specs.declared.field_class.ClassName.{ClassName}
use Rattle.fints_script_rows.specs.declared.field_class.ClassName.TheVariants as names
use Rattle.fints_script.specs.RefusalLaws.{At, AtOptional, Empty, InAccount, InArray, InBounds, InClassName, InClassOf, InField, InGiven, InInteger, InKeys, InLength, InListed, InName, InNeeded, InSome, InText, Kinds, Over, TooHigh, TooLow, Where, values_of, with_one, ◌∪◌}
use Rattle.fints_script.proofs.ReadParts.{not_past, same_ok}
use Rattle.fints_script.proofs.ToldKinds.{Tells, Told, Within, behind_told, behind_within, both_told, choice_told, clean, each_told, fails, holds, just, needed, or_within, then_told, told_left, told_right, unless, when, where_within, wide}

-- ---- lists

-- a test that fails where a limit is passed
pub limit_told : {X : Type 0} (b : Bool) (x : X) (faults : Kinds) → Within 11 11 faults
    → (b ≡ true → faults kinds.Limit)
    → (b ≡ false → (k : FaultKind) → faults k → ⊥) → Tells (cond b (Err kinds.Limit) (Ok x)) faults
limit_told true x faults within so not_so = (so refl, within.least)
limit_told false x faults within so not_so = not_so refl

-- and one that passes where none is
pub limit_kept : {X : Type 0} (b : Bool) (x : X) (faults : Kinds) → Within 11 11 faults
    → (b ≡ false → faults kinds.Limit)
    → (b ≡ true → (k : FaultKind) → faults k → ⊥) → Tells (cond b (Ok x) (Err kinds.Limit)) faults
limit_kept true x faults within so not_so = not_so refl
limit_kept false x faults within so not_so = (so refl, within.least)

pub past : (m n : ℕ) → nat_lt m n ≡ true → m < n
past m n h = grind (arith, nat_tests)

pub over_within : (most count : ℕ) → Within 11 11 (Over most count)
over_within most count = where_within 11 11 kinds.Limit (most < count) (omega arith) (omega arith)

pub over_tells : {X : Type 0} (most n count : ℕ) (x : X) → n ≡ count
    → Tells (cond (nat_lt most n) (Err kinds.Limit) (Ok x)) (Over most count)
over_tells most n count x e =
    limit_told (nat_lt most n) x (Over most count) (over_within most count)
    (λ t. (refl, subst (λ m. most < m) e (past most n t)))
    (λ f k s. let few = not_past most n f in let many = s.1 in omega (arith, few, many, e))

-- a list of no more entries than it may have
pub few_told : {X : Type 0} {p : Part (List X)} {faults : Kinds} (most count : ℕ) → Told 2 11 p faults
    → ((xs : List X) → p ≡ Ok xs → length xs ≡ count)
    → Told 2 11 (p >>= at_most most) (faults ∪ Over most count)
few_told {p} most count told counts =
    then_told (at_most most) 11 (omega arith) (omega arith) told
    (over_within most count)
    (λ xs e. over_tells most (length xs) count xs (counts xs e))

pub empty_told : (ds : List Data) → Told 2 11 (not_empty ds) (Empty ds)
empty_told [] = just 2 11 kinds.WrongKind (omega arith) (omega arith)
empty_told (d ∷ ds) = clean 2 11 (d ∷ ds) (Empty (d ∷ ds)) (λ k s. s)

pub some_told : {X : Type 0} (part : Data → Part X) (faults : Data → Kinds)
    → ((d : Data) → Told 2 11 (part d) (faults d))
    → (ds : List Data) → Told 2 11 (not_empty ds >>= each part) (Empty ds ∪ InSome faults ds)
some_told part faults told [] = told_left (λ k s. s) (just 2 11 kinds.WrongKind (omega arith) (omega arith))
some_told part faults told (d ∷ ds) = told_right (λ k s. s) (each_told part faults told (d ∷ ds))

-- ---- values by their types

pub array_told : {X : Type 0} (low high : ℕ) (part : List Data → Part X) (faults : List Data → Kinds)
    → low ≤ 4 → 4 ≤ high
    → ((ds : List Data) → Told low high (part ds) (faults ds)) → (d : Data)
    → Told low high (entries_of d >>= part) (InArray faults d)
array_told low high part faults l h told (array ds) = told (item_list ds)
array_told low high part faults l h told _ = just low high kinds.WrongKind l h

pub integer_told : (low high : ℕ) (d : Data) → Told 2 11 (integer_in low high d) (InInteger low high d)
integer_told low high (integer z) =
    needed 2 11 (number_between low high (integer z)) kinds.Limit (omega arith) (omega arith)
integer_told low high _ = just 2 11 kinds.WrongKind (omega arith) (omega arith)

-- ---- tables by their keys

needed_told : {X : Type 0} (part : Data → Part X) (faults : Data → Kinds)
    → ((d : Data) → Told 2 11 (part d) (faults d))
    → (o : Option Data) → Told 2 11 (ok_or o kinds.Missing >>= part) (InNeeded faults o)
needed_told part faults told None = just 2 11 kinds.Missing (omega arith) (omega arith)
needed_told part faults told (Some d) = told d

pub must_told : {X : Type 0} (ms : Members) (key : List ℕ) (part : Data → Part X) (faults : Data → Kinds)
    → ((d : Data) → Told 2 11 (part d) (faults d)) → Told 2 11 (must ms key part) (At ms key faults)
must_told ms key part faults told = needed_told part faults told (get_member key ms)

given_told : {X : Type 0} (absent : X) (part : Data → Part X) (faults : Data → Kinds)
    → ((d : Data) → Told 2 11 (part d) (faults d)) → (o : Option Data)
    → Told 2 11 (optional absent part o) (InGiven faults o)
given_told absent part faults told None = clean 2 11 absent (InGiven faults None) (λ k s. s)
given_told absent part faults told (Some d) = told d

pub may_told : {X : Type 0} (ms : Members) (key : List ℕ) (absent : X) (part : Data → Part X)
    (faults : Data → Kinds)
    → ((d : Data) → Told 2 11 (part d) (faults d))
    → Told 2 11 (may ms key absent part) (AtOptional ms key faults)
may_told ms key absent part faults told = given_told absent part faults told (get_member key ms)

pub keys_told : {X : Type 0} {p : Part X} {faults : Kinds} (keys : List (List ℕ)) (ms : Members)
    → Told 2 11 p faults
    → Told 2 11 (cond (only_keys keys ms) p (Err kinds.UnknownKey)) (InKeys keys ms faults)
keys_told keys ms told = choice_told (only_keys keys ms) kinds.UnknownKey (omega arith) told

-- ---- names

new_told : (taken : Bool) (text : List ℕ)
    → Told 2 11 (new_name taken text)
    (Where kinds.WrongKind (is_name text ≡ false) ∪ Where kinds.Duplicate (taken ≡ true))
new_told taken text =
    wide 2 11 (omega arith) (omega arith)
    (choice_told (is_name text) kinds.WrongKind (omega arith)
    (when 4 11 taken text kinds.Duplicate (omega arith) (omega arith)))

named_told : (taken : List ℕ → Bool) (d : Data)
    → Told 2 11 (text_of_name d >>= λ text. new_name (taken text) text) (InName taken d)
named_told taken (string text) = new_told (taken text) text
named_told taken _ = just 2 11 kinds.WrongKind (omega arith) (omega arith)

pub name_told : (taken : List ℕ → Bool) (ms : Members)
    → Told 2 11 (row_name taken ms) (At ms (codes "name") (InName taken))
name_told taken ms = at_key (get_member (codes "name") ms)
  where
    at_key : (o : Option Data)
        → Told 2 11 (ok_or o kinds.Missing >>= text_of_name >>= λ text. new_name (taken text) text)
        (InNeeded (InName taken) o)
    at_key None = just 2 11 kinds.Missing (omega arith) (omega arith)
    at_key (Some d) = named_told taken d

-- ---- listed values

text_told : (d : Data) → Told 4 5 (text_in d) (InText d)
text_told (string s) = unless 4 5 (is_latin1 s) (latin1 s) kinds.NotLatin1 (omega arith) (omega arith)
text_told _ = just 4 5 kinds.WrongKind (omega arith) (omega arith)

account_told : (d : Data) → Told 4 5 (account_in d) (InAccount d)
account_told d =
    array_told 4 5 account_of
    (λ ds. Where kinds.WrongKind (is_item_count (length ds) ≡ false) ∪ InSome InText ds) (omega arith)
    (omega arith)
    (λ ds. choice_told (is_item_count (length ds)) kinds.WrongKind (omega arith)
    (each_told text_in InText text_told ds)) d

-- where all entries have values, these are the values of the entries that have one
pub values_are : {X : Type 0} (part : Data → Part X) (ds : List Data) (xs : List X) → each part ds ≡ Ok xs
    → values_of part ds ≡ xs
values_are part [] xs e = same_ok [] xs e
values_are part (d ∷ ds) xs e =
    let parts = first_and_rest (part d) (each part ds) xs e in
    ap (λ (p : Part _). with_one p (values_of part ds)) parts.2
    ∙ ap (λ (ys : List _). parts.0 ∷ ys) (values_are part ds parts.1 parts.3)
    ∙ sym parts.4

listing_tells : (b c : Bool) (class : ClassValue)
    → Tells (cond b (Err kinds.Duplicate) (cond c (Ok class) (Err kinds.Limit)))
    (Where kinds.Duplicate (b ≡ true) ∪ Where kinds.Limit (c ≡ false))
listing_tells true c class = (inl (refl, refl), from)
  where
    from : (k : FaultKind) → (Where kinds.Duplicate (true ≡ true) ∪ Where kinds.Limit (c ≡ false)) k
        → 7 ≤ rank k
    from k (inl s) = subst (λ j. 7 ≤ rank j) (sym s.0) (omega arith)
    from k (inr s) = subst (λ j. 7 ≤ rank j) (sym s.0) (omega arith)
listing_tells false c class =
    (told_right (λ k s. absurd (let e = s.1 in cc))
    (unless 0 11 c class kinds.Limit (omega arith) (omega arith))).tells

module _ {X : Type 0} (part : Data → Part X) (faults : Data → Kinds) (same : X → X → Bool)
    (fits : X → Bool) where
  listed_told : (class : List X → ClassValue) → ((d : Data) → Told 4 5 (part d) (faults d)) → (ds : List Data)
      → Told 2 11 (each part ds >>= listing same fits class) (InListed part faults same fits ds)
  listed_told class told ds =
      wide 2 11 (omega arith) (omega arith)
      (then_told {low = 4} (listing same fits class) 5 (omega arith) (omega arith)
      (each_told part faults told ds)
      (or_within
      (where_within 5 11 kinds.Duplicate (some_are_same same (values_of part ds) ≡ true) (omega arith)
      (omega arith))
      (where_within 5 11 kinds.Limit
      ((is_value_count (length ds) && list_all fits (values_of part ds)) ≡ false) (omega arith)
      (omega arith)))
      rest)
    where
      rest : (xs : List X) → each part ds ≡ Ok xs → Tells (listing same fits class xs)
          (Where kinds.Duplicate (some_are_same same (values_of part ds) ≡ true)
          ∪ Where kinds.Limit ((is_value_count (length ds) && list_all fits (values_of part ds)) ≡ false))
      rest xs e =
          subst
          (λ (vs : List X).
          Tells (listing same fits class xs)
          (Where kinds.Duplicate (some_are_same same vs ≡ true)
          ∪ Where kinds.Limit ((is_value_count (length ds) && list_all fits vs) ≡ false)))
          (sym (values_are part ds xs e))
          (subst
          (λ n.
          Tells (listing same fits class xs)
          (Where kinds.Duplicate (some_are_same same xs ≡ true)
          ∪ Where kinds.Limit ((is_value_count n && list_all fits xs) ≡ false)))
          (each_length part ds xs e)
          (listing_tells (some_are_same same xs) (is_value_count (length xs) && list_all fits xs) (class xs)))

  values_told : (class : List X → ClassValue) → ((d : Data) → Told 4 5 (part d) (faults d)) → (ms : Members)
      → Told 2 11 (listed_in ms >>= each part >>= listing same fits class)
      (At ms (codes "values") (InArray (InListed part faults same fits)))
  values_told class told ms = at_key (get_member (codes "values") ms)
    where
      in_array : (d : Data)
          → Told 2 11 (entries_of d >>= each part >>= listing same fits class)
          (InArray (InListed part faults same fits) d)
      in_array (array ds) = listed_told class told (item_list ds)
      in_array _ = just 2 11 kinds.WrongKind (omega arith) (omega arith)

      at_key : (o : Option Data)
          → Told 2 11 (ok_or o kinds.Missing >>= entries_of >>= each part >>= listing same fits class)
          (InNeeded (InArray (InListed part faults same fits)) o)
      at_key None = just 2 11 kinds.Missing (omega arith) (omega arith)
      at_key (Some d) = in_array d

-- ---- bounds

length_told : (key : List ℕ) (ms : Members) → Told 2 11 (length_at key ms) (At ms key InLength)
length_told key ms = must_told ms key (integer_in 0 MAX_LEN) InLength (integer_told 0 MAX_LEN)

one_fails : (x y : Bool) → (x && y) ≡ false → (x ≡ false) ⊎ (y ≡ false)
one_fails true y e = inr e
one_fails false y e = inl refl

below : (m n : ℕ) → nat_le m n ≡ false → n < m
below m n h = grind (arith, nat_tests)

not_below : (m n : ℕ) → nat_le m n ≡ true → m ≤ n
not_below m n h = grind (arith, nat_tests)

module _ (least : ℕ) (ms : Members) where
  bounds_within : Within 11 11 (TooLow least ms ∪ TooHigh ms)
  bounds_within =
      or_within
      (behind_within (length_at (codes "min") ms) (λ min. Where kinds.Limit (min < least))
      (λ min. where_within 11 11 kinds.Limit (min < least) (omega arith) (omega arith)))
      (behind_within (lengths_in ms) (λ bounds. Where kinds.Limit (bounds.1 < bounds.0))
      (λ bounds. where_within 11 11 kinds.Limit (bounds.1 < bounds.0) (omega arith) (omega arith)))

  module _ (v : ℕ × ℕ) (is : lengths_in ms ≡ Ok v) where
    bounds_read : (length_at (codes "min") ms ≡ Ok v.0) × (length_at (codes "max") ms ≡ Ok v.1)
    bounds_read = both_ok (length_at (codes "min") ms) (length_at (codes "max") ms) v is

    unfit : (nat_le least v.0 && nat_le v.0 v.1) ≡ false → (TooLow least ms ∪ TooHigh ms) kinds.Limit
    unfit f = elim (one_fails (nat_le least v.0) (nat_le v.0 v.1) f) [
      | inl low ↦ inl (v.0, bounds_read.0, (refl, below least v.0 low))
      | inr high ↦ inr (v, is, (refl, below v.0 v.1 high))
    ]

    fit : (nat_le least v.0 && nat_le v.0 v.1) ≡ true → (k : FaultKind) → (TooLow least ms ∪ TooHigh ms) k → ⊥
    fit t k (inl s) =
        let same : s.0 ≡ v.0 = same_ok s.0 v.0 (sym s.1 ∙ bounds_read.0) in
        let low = s.2.1 in
        let kept = not_below least v.0 (and_parts (nat_le least v.0) (nat_le v.0 v.1) t).0 in
        omega (arith, same, low, kept)
    fit t k (inr s) =
        let pair : s.0 ≡ v = same_ok s.0 v (sym s.1 ∙ is) in
        let first : s.0.0 ≡ v.0 = ap (λ (p : ℕ × ℕ). p.0) pair in
        let second : s.0.1 ≡ v.1 = ap (λ (p : ℕ × ℕ). p.1) pair in
        let high = s.2.1 in
        let kept = not_below v.0 v.1 (and_parts (nat_le least v.0) (nat_le v.0 v.1) t).1 in
        omega (arith, first, second, high, kept)

  bounds_told : (class : ℕ → ℕ → ClassValue)
      → Told 2 11 (lengths_in ms >>= sized least class) (InBounds least ms)
  bounds_told class =
      then_told (sized least class) 11 (omega arith) (omega arith)
      (both_told (length_told (codes "min") ms) (length_told (codes "max") ms)) bounds_within
      (λ v is.
      limit_kept (nat_le least v.0 && nat_le v.0 v.1) (class v.0 v.1)
      (TooLow least ms ∪ TooHigh ms) bounds_within
      (unfit v is) (fit v is))

-- ---- the class

word_told : {p : Part ClassName} (b others : Bool) (class : ClassName)
    → Told 2 11 p (Where kinds.WrongKind (others ≡ false))
    → Told 2 11 (cond b (Ok class) p) (Where kinds.WrongKind ((b || others) ≡ false))
word_told true others class told = fails 2 11 class kinds.WrongKind _ (λ e. absurd cc)
word_told false others class told = told

class_name_told : (d : Data) → Told 2 11 (class_name_in d) (InClassName d)
class_name_told (string name) =
    word_told (bytes_eq name (codes "digits")) _ _
    (word_told (bytes_eq name (codes "plain")) _ _
    (word_told (bytes_eq name (codes "text")) _ _
    (word_told (bytes_eq name (codes "bin")) _ _
    (word_told (bytes_eq name (codes "oneof")) _ _
    (word_told (bytes_eq name (codes "account")) false _
    (holds 2 11 kinds.WrongKind (false ≡ false) refl (omega arith) (omega arith)))))))
class_name_told _ = just 2 11 kinds.WrongKind (omega arith) (omega arith)

class_of_told : (ms : Members) → Told 2 11 (class_of ms) (At ms (codes "class") InClassName)
unfolding class_of
class_of_told ms = must_told ms (codes "class") class_name_in InClassName class_name_told

class_with_told : (ms : Members) (class : ClassName) → Told 2 11 (class_with ms class) (InClassOf ms class)
unfolding class_with
class_with_told ms (names.Text alphabet) = bounds_told 0 ms (text_class alphabet)
class_with_told ms names.Bin = bounds_told 1 ms bin
class_with_told ms names.OneOf = values_told text_in InText bytes_eq is_short oneof text_told ms
class_with_told ms names.Account =
    values_told account_in InAccount (pointwise bytes_eq) (list_all is_short) account account_told ms

-- ---- the row of a field

pub field_told : (earlier : List Data) (d : Data) → Told 2 11 (field_in earlier d) (InField earlier d)
unfolding table_field
field_told earlier (table ms) =
    keys_told (field_keys (class_of ms)) ms
    (both_told (name_told (is_taken_field earlier) ms)
    (behind_told (InClassOf ms) (class_of_told ms) (class_with_told ms)))
field_told earlier _ = just 2 11 kinds.WrongKind (omega arith) (omega arith)
