-- What elements that were read keep.
use Rattle.std.proofs.Common.{◌≡◌, ℕ, ◌+◌, ◌<◌, ◌≤◌, ◌⊎◌, Bool, true, false, ◌&&◌, not, cond, codes, List, [], ◌∷◌, length, nat_lt, All, Option, Some, None, Result, Ok, Err, refl, ap, subst, ◌∙◌, sym, inl, inr, arith}
use Rattle.std.specs.Prelude.{IsTrue, slice_get, position}
use Rattle.std.specs.List.{position_or_len}
use Rattle.std.specs.Str.{bytes_eq}
use Rattle.std.proofs.lemmas.Bool.{cases_Bool, false≢true}
use Rattle.std.proofs.lemmas.Bool.Decides.{nat_tests}
use Rattle.std.proofs.lemmas.List.Elements.{All-cons, All-nil}
use Rattle.toml.specs.Data.{Data, string, array}
use Rattle.fints_syntax_segments.specs.declared.item.OwnedItem.TheVariants.{Text, Bin}
use Rattle.fints_syntax_texts.specs.Document.{item_list}
use Rattle.fints_script_rows.specs.NamedFields.{is_account_at, is_field_named, place_of_field}
use Rattle.fints_script_rows.specs.PartLaws.{bind_ok, choice_ok, each_all, each_length}
use Rattle.fints_script_rows.specs.Parts.{each, entries_of, not_empty}
use Rattle.fints_script_rows.specs.Texts.{is_latin1, latin1}
use Rattle.fints_script_rows.specs.declared.fault.FaultKind.TheVariants as kinds
use Rattle.fints_script_rows.specs.declared.fields.NamedField.{NamedField}
use Rattle.fints_script_templates.specs.ItemTexts.{Reading, reference, hex, literal, reading_of}
use Rattle.fints_script_templates.specs.Elements.{array_in, bin_of, element_in, elements_in, field_at, item_in, literal_in, reading_in, reference_in}
use Rattle.fints_script_templates.specs.declared.template.TemplateItem.{TemplateItem}
use Rattle.fints_script_templates.specs.declared.template.TemplateItem.TheVariants.{Literal, Dialog, Field}
use Rattle.fints_script.specs.Plans.{is_account_field}
use Rattle.fints_script.specs.Sound.{IsInRange, IsSingle, IsFrameElement, IsBodyElement}
use Rattle.fints_script.proofs.ReadParts.{failed, not_empty_ok, passed, same_ok}

-- ---- the first place that passes

found : (b : Bool) (m n : ℕ) → cond b (Some m) None ≡ Some n → (b ≡ true) × (m ≡ n)
found true m n h = (refl, some_is h)
  where
    some_is : Some m ≡ Some n → m ≡ n
    some_is e = cc
found false m n h = cc

pub place_within : {X : Type 0} (p : X → Bool) (xs : List X) (n : ℕ) → position p xs ≡ Some n → n < length xs
place_within p xs n h =
    let at = found (nat_lt (position_or_len p xs) (length xs)) (position_or_len p xs) n h in
    let test : nat_lt (position_or_len p xs) (length xs) ≡ true = at.0 in
    subst (λ m. m < length xs) at.1 (grind (arith, nat_tests))

later : (b : Bool) (n : ℕ) → b ≡ false → 1 ≤ cond (not b) (1 + n) 0
later true n h = absurd (false≢true (sym h))
later false n h = omega arith

place_later : {X : Type 0} (p : X → Bool) (x : X) (xs : List X) (n : ℕ) → p x ≡ false
    → position p (x ∷ xs) ≡ Some n → 1 ≤ n
place_later p x xs n no' h =
    let at = found (nat_lt (position_or_len p (x ∷ xs)) (length (x ∷ xs))) (position_or_len p (x ∷ xs)) n h in
    subst (λ m. 1 ≤ m) at.1 (later (p x) (position_or_len p xs) no')

-- the built-in field comes first: a field of another name comes after it
abbrev pub IsBehindFirst : List NamedField → Type 0
IsBehindFirst fields = (name : List ℕ) (n : ℕ) → bytes_eq name (codes "dialog") ≡ false → place_of_field fields name ≡ Some n → 1 ≤ n

pub behind_first : (first : NamedField) (others : List NamedField) → first.name ≡ codes "dialog"
    → IsBehindFirst (first ∷ others)
behind_first first others named name n other h = place_later (is_field_named name) first others n (ap (bytes_eq name) named ∙ other) h

-- ---- items

-- a test that fails after one that doesn't
not_free : (free account : Bool) → (not free && account) ≡ false → free ≡ false → account ≡ false
not_free true account h e = cc
not_free false account h e = h

module _ (fields : List NamedField) (behind : IsBehindFirst fields) where
  -- what an item is that was read; where account fields may not be, it is none
  abbrev Fits : Bool → TemplateItem → Type 0
  Fits free item = IsInRange fields item × (free ≡ false → IsSingle fields item)

  field_fits : (free : Bool) (o : Option ℕ) (item : TemplateItem)
      → ((n : ℕ) → o ≡ Some n → IsInRange fields (Field n)) → field_at fields free o ≡ Ok item
      → Fits free item
  field_fits free None item within e = absurd cc
  field_fits free (Some n) item within e =
      let test = failed (not free && is_account_at (slice_get fields n)) (Ok (Field n)) kinds.WrongKind item e in
      subst (Fits free) (same_ok (Field n) item test.1) (within n refl, not_free free (is_account_at (slice_get fields n)) test.0)

  reference_fits : (free : Bool) (name : List ℕ) (item : TemplateItem)
      → reference_in fields free name ≡ Ok item → Fits free item
  reference_fits free name item e = elim (choice_ok (bytes_eq name (codes "dialog")) (Ok Dialog) (field_at fields free (place_of_field fields name)) item e) [
    | inl is ↦ subst (Fits free) (same_ok Dialog item is.1) (tt, λ h. tt)
    | inr other ↦ field_fits free (place_of_field fields name) item (λ n at. (behind name n other.0 at, place_within (is_field_named name) fields n at)) other.1
  ]

  bin_fits : {E : Type 0} (free : Bool) (r : Result (List ℕ) E) (item : TemplateItem) → bin_of r ≡ Ok item
      → Fits free item
  bin_fits free (Ok bytes) item e = subst (Fits free) (same_ok (Literal (Bin bytes)) item e) (tt, λ h. tt)
  bin_fits free (Err bad) item e = absurd cc

  literal_fits : (free : Bool) (text : List ℕ) (item : TemplateItem) → literal_in text ≡ Ok item
      → Fits free item
  literal_fits free text item e =
      let test = passed (is_latin1 text) (Ok (Literal (Text (latin1 text)))) kinds.NotLatin1 item e in
      subst (Fits free) (same_ok (Literal (Text (latin1 text))) item test.1) (tt, λ h. tt)

  reading_fits : (free : Bool) (r : Reading) (item : TemplateItem) → reading_in fields free r ≡ Ok item
      → Fits free item
  reading_fits free (reference name) item e = reference_fits free name item e
  reading_fits free (hex digits) item e = bin_fits free _ item e
  reading_fits free (literal text) item e = literal_fits free text item e

  item_fits : (free : Bool) (d : Data) (item : TemplateItem) → item_in fields free d ≡ Ok item
      → Fits free item
  item_fits free (string text) item e = reading_fits free (reading_of text) item e
  item_fits free _ item e = absurd cc

  -- ---- elements

  -- an array has an item, and no account field
  array_fits : (ds : List Data) (items : List TemplateItem) → array_in fields ds ≡ Ok items
      → IsFrameElement fields items
  array_fits ds items e =
      let read = bind_ok (not_empty ds) (each (item_in fields false)) items e in
      let some = not_empty_ok ds read.0 read.1 in
      record {
        some = subst (λ n. 0 < n) (sym (each_length (item_in fields false) read.0 items read.2)) some.1;
        within = each_all (item_in fields false) (IsInRange fields) (λ d item is. (item_fits false d item is).0) read.0 items read.2;
        single = each_all (item_in fields false) (IsSingle fields) (λ d item is. (item_fits false d item is).1 refl) read.0 items read.2;
      }

  one : (P : TemplateItem → Type 0) (item : TemplateItem) → P item → All P (item ∷ [])
  one P item h = All-cons P item [] h (All-nil P)

  frame_item : (item : TemplateItem) → Fits false item → IsFrameElement fields (item ∷ [])
  frame_item item fits = record { some = omega arith; within = one (IsInRange fields) item fits.0; single = one (IsSingle fields) item (fits.1 refl) }

  -- a string that is an element is one item
  text_element : (free : Bool) (text : List ℕ) (items : List TemplateItem)
      → element_in fields free (string text) ≡ Ok items
      → (item : TemplateItem) × Fits free item × (item ∷ [] ≡ items)
  text_element free text items e =
      let read = bind_ok (item_in fields free (string text)) (λ item. Ok (item ∷ [])) items e in
      (read.0, item_fits free (string text) read.0 read.1, same_ok (read.0 ∷ []) items read.2)

  -- an element of a signer or of the seal
  frame_element : (d : Data) (items : List TemplateItem) → element_in fields false d ≡ Ok items
      → IsFrameElement fields items
  frame_element (array ds) items e = array_fits (item_list ds) items e
  frame_element (string text) items e = let read = text_element false text items e in subst (IsFrameElement fields) read.2 (frame_item read.0 read.1)
  frame_element _ items e = absurd cc

  alone : (item : TemplateItem)
      → IsTrue (is_account_field fields (item ∷ [])) ⊎ All (IsSingle fields) (item ∷ [])
  alone (Literal x) = inr (one (IsSingle fields) (Literal x) tt)
  alone Dialog = inr (one (IsSingle fields) Dialog tt)
  alone (Field f) = elim (cases_Bool (is_account_at (slice_get fields f))) [
    | inl e ↦ inl e
    | inr e ↦ inr (one (IsSingle fields) (Field f) e)
  ]

  body_item : (item : TemplateItem) → Fits true item → IsBodyElement fields (item ∷ [])
  body_item item fits = record { some = omega arith; within = one (IsInRange fields) item fits.0; alone = alone item }

  -- an element of a step's segment
  body_element : (d : Data) (items : List TemplateItem) → element_in fields true d ≡ Ok items
      → IsBodyElement fields items
  body_element (array ds) items e = let fits = array_fits (item_list ds) items e in record { some = fits.some; within = fits.within; alone = inr fits.single }
  body_element (string text) items e = let read = text_element true text items e in subst (IsBodyElement fields) read.2 (body_item read.0 read.1)
  body_element _ items e = absurd cc

  pub frame_elements : (d : Data) (elements : List (List TemplateItem))
      → elements_in fields false d ≡ Ok elements → All (IsFrameElement fields) elements
  frame_elements d elements e =
      let read = bind_ok (entries_of d) (each (element_in fields false)) elements e in
      each_all (element_in fields false) (IsFrameElement fields) frame_element read.0 elements read.2

  pub body_elements : (d : Data) (elements : List (List TemplateItem))
      → elements_in fields true d ≡ Ok elements → All (IsBodyElement fields) elements
  body_elements d elements e =
      let read = bind_ok (entries_of d) (each (element_in fields true)) elements e in
      each_all (element_in fields true) (IsBodyElement fields) body_element read.0 elements read.2
