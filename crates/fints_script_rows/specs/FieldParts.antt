-- What an entry that is a field has, and what a row that has a name has. Only proofs cite these words.
use Rattle.std.proofs.Common.{◌≡◌, ◌≢◌, ℕ, Bool, false, codes, cond, List, Some, Ok, Err, refl, ap, sym, ◌∙◌, inl, inr}
use Rattle.std.specs.Prelude.{option_and_then}
use Rattle.std.specs.List.{list_any}
use Rattle.std.specs.Str.{bytes_eq}
use Rattle.std.proofs.lemmas.Bool.{false≢true, or_parts}
use Rattle.std.proofs.lemmas.Slice.Eq.{bytes_eq-Decides}
use Rattle.toml.specs.Data.{Data, string, integer, float, boolean, datetime, array, table, Members, as_str, get_member}
use Rattle.fints_syntax_texts.specs.Document.{only_keys}
use Rattle.fints_syntax_texts.specs.Entries.{is_called, name_in}
use Rattle.fints_script_fields.specs.Names.{is_name}
use Rattle.fints_script_rows.specs.Fields.{ClassValue, class_in, class_of, field_in, field_keys, is_taken_field, table_field}
use Rattle.fints_script_rows.specs.PartLaws.{bind_ok, both_ok, choice_ok, or_ok}
use Rattle.fints_script_rows.specs.Parts.{both, required}
use Rattle.fints_script_rows.specs.RowNames.{name_text, new_name, row_name, text_of_name}
use Rattle.fints_script_rows.specs.declared.fault.FaultKind.TheVariants as kinds

-- ---- names of rows

text_is : (d : Data) (text : List ℕ) → text_of_name d ≡ Ok text → d ≡ string text
text_is (string t) text e = let same : t ≡ text = cc in ap string same
text_is (integer z) text e = absurd cc
text_is (float x) text e = absurd cc
text_is (boolean b) text e = absurd cc
text_is (datetime t) text e = absurd cc
text_is (array ds) text e = absurd cc
text_is (table ms) text e = absurd cc

new_is : (taken : Bool) (text name : List ℕ) → new_name taken text ≡ Ok name → (text ≡ name) × (taken ≡ false)
new_is taken text name e =
    elim (choice_ok (is_name text) (cond taken (Err kinds.Duplicate) (Ok text)) (Err kinds.WrongKind)
    name e) [
      | inr f ↦ absurd (let h = f.1 in cc)
      | inl t ↦ elim (choice_ok taken (Err kinds.Duplicate) (Ok text) name t.1) [
        | inl u ↦ absurd (let h = u.1 in cc)
        | inr n ↦ ((let h = n.1 in cc), n.0)
      ]
    ]

-- a row that has a name gives it, and it is not taken
pub row_named : (taken : List ℕ → Bool) (ms : Members) (name : List ℕ) → row_name taken ms ≡ Ok name
    → (name_in (table ms) ≡ Some name) × (taken name ≡ false)
row_named taken ms name e =
    let read = bind_ok (name_text ms) (λ text. new_name (taken text) text) name e in
    let value = bind_ok (required (codes "name") ms) text_of_name read.0 read.1 in
    let new = new_is (taken read.0) read.0 name read.2 in
    let there = or_ok (get_member (codes "name") ms) kinds.Missing value.0 value.1 in (
      ap (option_and_then as_str) (there ∙ ap Some (text_is value.0 read.0 value.2)) ∙ ap Some new.0,
      ap taken (sym new.0) ∙ new.1,
    )

-- ---- fields

-- what an entry that is a field has
pub record IsField (earlier : List Data) (entry : Data) (name : List ℕ) (class : ClassValue) : Type 0 where
  pub members : Members
  pub is : entry ≡ table members
  pub named : name_in entry ≡ Some name
  pub no_dialog : name ≢ codes "dialog"
  pub new : list_any (is_called name) earlier ≡ false
  pub class_is : class_in members ≡ Ok class

pub is_field : (earlier : List Data) (entry : Data) (name : List ℕ) (class : ClassValue)
    → field_in earlier entry ≡ Ok (name, class) → IsField earlier entry name class
unfolding table_field
is_field earlier (table ms) name class e =
    elim
    (choice_ok (only_keys (field_keys (class_of ms)) ms)
    (both (row_name (is_taken_field earlier) ms) (class_in ms)) (Err kinds.UnknownKey) (name, class) e) [
      | inr f ↦ absurd (let h = f.1 in cc)
      | inl t ↦
          let parts = both_ok (row_name (is_taken_field earlier) ms) (class_in ms) (name, class) t.1 in
          let named = row_named (is_taken_field earlier) ms name parts.0 in
          let new = or_parts (bytes_eq name (codes "dialog")) (list_any (is_called name) earlier) named.1 in
          record {
            members = ms;
            is = refl;
            named = named.0;
            no_dialog = λ same. false≢true (sym new.0 ∙ (bytes_eq-Decides name (codes "dialog")).1 same);
            new = new.1;
            class_is = parts.1;
          }
    ]
is_field earlier (string t) name class e = absurd cc
is_field earlier (integer z) name class e = absurd cc
is_field earlier (float x) name class e = absurd cc
is_field earlier (boolean b) name class e = absurd cc
is_field earlier (datetime t) name class e = absurd cc
is_field earlier (array ds) name class e = absurd cc
