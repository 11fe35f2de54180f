-- The names of a read script's fields are pairwise different, and so are those of its steps.
use Rattle.std.proofs.Common.{◌≡◌, ◌≢◌, ℕ, zero, suc, ◌<◌, Bool, true, false, codes, List, [], ◌∷◌, get_or, map, take, AllPairs, Option, Some, Ok, ap, subst, ◌∙◌, sym, arith}
use Rattle.std.specs.Prelude.{option_and_then, option_map, slice_get}
use Rattle.std.specs.List.{list_any}
use Rattle.std.proofs.lemmas.Bool.{false≢true, or_parts}
use Rattle.std.proofs.lemmas.List.Kept.{AllPairs-cons}
use Rattle.std.proofs.lemmas.Option.{same_Some, slice_get-get_or, slice_get-map}
use Rattle.std.proofs.lemmas.Slice.Eq.{bytes_eq-Decides}
use Rattle.toml.specs.Data.{Data, string, table, get_member, as_str}
use Rattle.fints_syntax_texts.specs.Entries.{holds_text, is_called, name_in}
use Rattle.fints_script_rows.specs.FieldParts.{is_field}
use Rattle.fints_script_rows.specs.Fields.{ClassValue, class_value, field_in, field_value}
use Rattle.fints_script_rows.specs.declared.fault.Place.TheVariants as places
use Rattle.fints_script_rows.specs.declared.fields.NamedField.{NamedField}
use Rattle.fints_script.specs.Scripts.{dialog_value, fields_from, steps_from}
use Rattle.fints_script.specs.Sound.{FieldsAreApart, StepsAreApart}
use Rattle.fints_script.specs.Steps.{StepValue, Surroundings, step_in}
use Rattle.fints_script.proofs.ReadParts.{row_of}
use Rattle.fints_script.proofs.SoundSteps.{step_named}

-- ---- rows that have a name

own_text : (o : Option Data) (q : List ℕ) → option_and_then as_str o ≡ Some q → holds_text q o ≡ true
own_text (Some (string text)) q h = (bytes_eq-Decides q text).1 (sym (same_Some text q h))
own_text _ q h = cc

own_name : (row : Data) (q : List ℕ) → name_in row ≡ Some q → is_called q row ≡ true
own_name (table ms) q h = own_text (get_member (codes "name") ms) q h
own_name _ q h = cc

-- where none of the first j passes, each before j fails
not_any : {X : Type 0} (p : X → Bool) (xs : List X) (i j : ℕ) (x : X) → i < j → slice_get xs i ≡ Some x
    → list_any p (take j xs) ≡ false → p x ≡ false
not_any p [] i j x lt e h = cc
not_any p (y ∷ ys) i zero x lt e h = absurd (omega (arith, lt))
not_any p (y ∷ ys) zero (suc j) x lt e h = subst (λ z. p z ≡ false) (same_Some y x e) (or_parts (p y) (list_any p (take j ys)) h).0
not_any p (y ∷ ys) (suc i) (suc j) x lt e h = not_any p ys i j x (omega (arith, lt)) e (or_parts (p y) (list_any p (take j ys)) h).1

-- the row at k gives the name, and no earlier row has it
abbrev IsNamedRow : List Data → ℕ → List ℕ → Type 0
IsNamedRow rows k name = (row : Data) × (slice_get rows k ≡ Some row) × (name_in row ≡ Some name) × (list_any (is_called name) (take k rows) ≡ false)

-- what rows name is pairwise different, where no earlier row has a row's name
apart : {X : Type 0} (name : X → List ℕ) (rows : List Data) (xs : List X)
    → ((k : ℕ) (x : X) → slice_get xs k ≡ Some x → IsNamedRow rows k (name x))
    → AllPairs (λ (x y : X). name x ≢ name y) xs
apart name rows xs each i j d lt within e =
    let first = each i (get_or xs i d) (slice_get-get_or xs i d (omega (arith, lt, within))) in
    let second = each j (get_or xs j d) (slice_get-get_or xs j d within) in
    let free = not_any (is_called (name (get_or xs j d))) rows i j first.0 lt first.1 second.3 in
    let own = own_name first.0 (name (get_or xs j d)) (first.2 ∙ ap Some e) in
    false≢true (sym free ∙ own)

-- ---- fields

module _ (rows : List Data) (others : List NamedField) (each : fields_from rows ≡ Ok (map field_value others)) where
  -- the row of a field gives its name, which is not the built-in one's
  field_named : (k : ℕ) (f : NamedField) → slice_get others k ≡ Some f
      → IsNamedRow rows k f.name × (f.name ≢ codes "dialog")
  field_named k f e =
      let row =
      row_of (λ n. places.Field n) (λ i entry. field_in (take i rows) entry) rows (map field_value others)
      k (field_value f) each (slice_get-map field_value others k ∙ ap (option_map field_value) e) in
      let is = is_field (take k rows) row.0 f.name (class_value f.class) row.2 in
      ((row.0, row.1, is.named, is.new), is.no_dialog)

  pub fields_apart : (dialog : NamedField) → field_value dialog ≡ dialog_value
      → FieldsAreApart (dialog ∷ others)
  fields_apart dialog built_in =
      AllPairs-cons (λ (f g : NamedField). f.name ≢ g.name) dialog others
      (λ k d within e. (field_named k (get_or others k d) (slice_get-get_or others k d within)).1 (sym e ∙ ap (λ (v : List ℕ × ClassValue). v.0) built_in))
      (apart (λ (f : NamedField). f.name) rows others (λ k f e. (field_named k f e).0))

-- ---- steps

pub steps_apart : (around : Surroundings) (steps : List StepValue) → steps_from around ≡ Ok steps
    → StepsAreApart steps
steps_apart around steps each =
    apart (λ (s : StepValue). s.name) around.rows steps
    (λ k step e.
    let row = row_of (λ n. places.Step n) (step_in around) around.rows steps k step each e in
    let named = step_named around k row.0 step row.2 in
    (row.0, row.1, named.0, named.1))
