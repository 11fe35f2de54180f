-- What the elements of filled segments hold, and what fills the fields of a choice.
use Rattle.std.proofs.Common.{◌≡◌, ◌≢◌, ℕ, zero, suc, ◌-◌, ◌≤◌, eqb, true, codes, List, [], ◌∷◌, ◌++◌, length, map, get_or, set, Some, refl, ap, sym, subst, ◌∙◌, arith, inl, inr}
use Rattle.std.specs.Prelude.{slice_get}
use Rattle.std.specs.List.{zip, list_all}
use Rattle.std.proofs.lemmas.Bool.{cases_Bool, false≢true}
use Rattle.std.proofs.lemmas.List.{append-nil}
use Rattle.std.proofs.lemmas.List.Elements.{All-cons, All-head, All-tail}
use Rattle.std.proofs.lemmas.Option.{same_Some}
use Rattle.fints_syntax_segments.specs.Segment.{item_value}
use Rattle.fints_syntax_segments.specs.Values.{values_at}
use Rattle.fints_syntax_segments.specs.declared.item.OwnedItem.{OwnedItem}
use Rattle.fints_syntax_segments.specs.declared.item.OwnedItem.TheVariants.{Text as TextItem}
use Rattle.fints_script_fields.specs.Fields.{IsListedAt, field_domain, field_items}
use Rattle.fints_script_fields.specs.Listed.{account_items}
use Rattle.fints_script_fields.specs.declared.field.Field.{Field as Class}
use Rattle.fints_script_fields.specs.declared.field.Field.TheVariants as classes
use Rattle.fints_script_fields.specs.declared.listing.Account.{Account as AccountClass}
use Rattle.fints_script_rows.specs.NamedFields.{has_accounts}
use Rattle.fints_script_rows.specs.declared.fields.NamedField.{NamedField}
use Rattle.fints_script_cases.specs.declared.values.NamedValue.{NamedValue}
use Rattle.fints_script.specs.Plans.{Admits, IsChosen, is_literal}
use Rattle.fints_script_rows.specs.Fields.{ClassValue, class_value}
use Rattle.fints_script.specs.Scripts.{ScriptValue, dialog_value}
use Rattle.fints_script.specs.Sound.{HasDialog, IsSound}
use Rattle.fints_script_templates.specs.declared.template.Template.{Template}
use Rattle.fints_script_templates.specs.declared.template.TemplateItem.{TemplateItem}
use Rattle.fints_script_templates.specs.declared.template.TemplateItem.TheVariants.{Literal, Dialog, Field}
use Rattle.fints_wire.specs.Choices.{value_of, with_value}
use Rattle.fints_wire.specs.Filling.{FillingValue, IsPutIn, element_at, filled_element, filled_elements, filled_segment, filling_of, items_of_fields}

-- ---- elements

element_filled : (F : FillingValue) (es : List (List TemplateItem)) (i : ℕ)
    → get_or (filled_elements F es) i [] ≡ filled_element F (get_or es i [])
element_filled F [] i = refl
element_filled F (e ∷ es) zero = refl
element_filled F (e ∷ es) (suc i) = element_filled F es i

pub values_filled : (F : FillingValue) (n e : ℕ) (t : Template)
    → values_at (filled_segment F n t) e ≡ map item_value (filled_element F (element_at t e))
values_filled F n e t = ap (map item_value) (element_filled F t.elements (e - 2))

literal_same : (F G : FillingValue) (items : List TemplateItem) → list_all is_literal items ≡ true
    → filled_element F items ≡ filled_element G items
literal_same F G [] h = refl
literal_same F G (Literal item ∷ items) h = ap (λ (x : List OwnedItem). (item ∷ []) ++ x) (literal_same F G items h)
literal_same F G (Dialog ∷ items) h = absurd (false≢true h)
literal_same F G (Field f ∷ items) h = absurd (false≢true h)

pub literals_stay : (F G : FillingValue) (n m e : ℕ) (t : Template)
    → list_all is_literal (element_at t e) ≡ true
    → values_at (filled_segment F n t) e ≡ values_at (filled_segment G m t) e
literals_stay F G n m e t h = values_filled F n e t ∙ (ap (map item_value) (literal_same F G (element_at t e) h) ∙ sym (values_filled G m e t))

-- ---- fields

abbrev IsPair : NamedField × NamedValue → Type 0
IsPair p = IsChosen p.0 p.1

pub put_in : (fields : List NamedField) (values : List NamedValue) (f : ℕ) (field : NamedField)
    → Admits fields values → slice_get fields f ≡ Some field → IsPutIn fields values f field
put_in [] values f field h at = absurd cc
put_in (x ∷ xs) [] f field h at = let n = h.0 in absurd (omega arith)
put_in (x ∷ xs) (v ∷ vs) zero field h at =
    let one : IsPair (x, v) = All-head IsPair (x, v) (zip xs vs) h.1 in
    subst (IsPutIn (x ∷ xs) (v ∷ vs) zero) (same_Some x field at) (record { value = v; there = refl; chosen = one; items = refl })
put_in (x ∷ xs) (v ∷ vs) (suc f) field h at =
    let n = h.0 in
    let r = put_in xs vs f field (omega arith, All-tail IsPair (x, v) (zip xs vs) h.1) at in
    record { value = r.value; there = r.there; chosen = r.chosen; items = r.items }

pub set_admitted : (fields : List NamedField) (values : List NamedValue) (f : ℕ) (field : NamedField)
    (value : List ℕ) → Admits fields values → slice_get fields f ≡ Some field → field_domain field.class value
    → Admits fields (with_value values f field value)
set_admitted [] values f field value h at good = absurd cc
set_admitted (x ∷ xs) [] f field value h at good = let n = h.0 in absurd (omega arith)
set_admitted (x ∷ xs) (v ∷ vs) zero field value h at good =
    let mine : IsPair (x, value_of field value) = subst (λ (y : NamedField). IsPair (y, value_of field value)) (sym (same_Some x field at)) (refl, good) in
    (h.0, All-cons IsPair (x, value_of field value) (zip xs vs) mine (All-tail IsPair (x, v) (zip xs vs) h.1))
set_admitted (x ∷ xs) (v ∷ vs) (suc f) field value h at good =
    let n = h.0 in
    let r = set_admitted xs vs f field value (omega arith, All-tail IsPair (x, v) (zip xs vs) h.1) at good in
    (ap suc r.0, All-cons IsPair (x, v) (zip xs (with_value vs f field value)) (All-head IsPair (x, v) (zip xs vs) h.1) r.1)

pub set_items : (fields : List NamedField) (values : List NamedValue) (f : ℕ) (field : NamedField)
    (value : List ℕ) → slice_get fields f ≡ Some field
    → items_of_fields fields (with_value values f field value) ≡ set (items_of_fields fields values) f
    (field_items field.class value)
set_items [] values f field value at = absurd cc
set_items (x ∷ xs) [] f field value at = refl
set_items (x ∷ xs) (v ∷ vs) zero field value at = ap (λ (y : NamedField). field_items y.class value ∷ items_of_fields xs vs) (same_Some x field at)
set_items (x ∷ xs) (v ∷ vs) (suc f) field value at = ap (λ (is : List (List OwnedItem)). field_items x.class v.value ∷ is) (set_items xs vs f field value at)

-- ---- accounts

account_class : (class : Class) → has_accounts class ≡ true → (c : AccountClass) × (class ≡ classes.Account c)
account_class (classes.Account c) h = (c, refl)
account_class (classes.Text c) h = absurd (false≢true h)
account_class (classes.Bin c) h = absurd (false≢true h)
account_class (classes.OneOf c) h = absurd (false≢true h)

text_values : (account : List (List ℕ)) → map item_value (account_items account) ≡ account
text_values [] = refl
text_values (a ∷ as') = ap (λ (xs : List (List ℕ)). a ∷ xs) (text_values as')

abbrev AccountsAreListed : Type 0
AccountsAreListed =
    (c : AccountClass) (v : List ℕ) → field_domain (classes.Account c) v
    → (place : ℕ) × (account : List (List ℕ)) × IsListedAt (classes.Account c) v place account

pub account_stands : AccountsAreListed
    → (fields : List NamedField) (values : List NamedValue) (number n e f : ℕ) (t : Template)
    (field : NamedField)
    → Admits fields values → element_at t e ≡ Field f ∷ [] → slice_get fields f ≡ Some field
    → has_accounts field.class ≡ true
    → (value : NamedValue) × (slice_get values f ≡ Some value) × (place : ℕ) × (account : List (List ℕ))
    × IsListedAt field.class value.value place account
    × (values_at (filled_segment (filling_of fields values number) n t) e ≡ account)
account_stands listed fields values number n e f t field admits alone at is =
    let F : FillingValue = filling_of fields values number in
    let v = put_in fields values f field admits at in
    let c = account_class field.class is in
    let l = listed c.0 v.value.value (subst (λ (x : Class). field_domain x v.value.value) c.1 v.chosen.1) in
    let here : IsListedAt field.class v.value.value l.0 l.1 = subst (λ (x : Class). IsListedAt x v.value.value l.0 l.1) (sym c.1) l.2 in
    let one : filled_element F (Field f ∷ []) ≡ account_items l.1 = append-nil (get_or (items_of_fields fields values) f []) ∙ (v.items ∙ here.items) in (
      v.value,
      v.there,
      l.0,
      l.1,
      here,
      values_filled F n e t ∙ (ap (λ (items : List TemplateItem). map item_value (filled_element F items)) alone ∙ (ap (map item_value) one ∙ text_values l.1)),
    )

-- ---- the dialogue id

dialog_class : (class : Class) (v : List ℕ) → class_value class ≡ dialog_value.1 → field_domain class v
    → (field_items class v ≡ TextItem v ∷ []) × (v ≢ [])
dialog_class (classes.Text c) v is h = (refl, λ e. let n : length v ≡ 0 = ap length e in let least = h.least in let one : c.min ≡ 1 = cc in omega arith)
dialog_class (classes.Bin c) v is h = absurd cc
dialog_class (classes.OneOf c) v is h = absurd cc
dialog_class (classes.Account c) v is h = absurd cc

dialog_field : (fields : List NamedField) → 1 ≤ length fields → HasDialog fields
    → (field : NamedField) × (slice_get fields 0 ≡ Some field) × (class_value field.class ≡ dialog_value.1)
dialog_field [] some h = absurd (omega (arith, some))
dialog_field (x ∷ xs) some h = (x, refl, ap (λ (v : List ℕ × ClassValue). v.1) h)

abbrev IsOneText : List OwnedItem → Type 0
IsOneText items = (item : OwnedItem) × (items ≡ item ∷ []) × (item_value item ≢ [])

later_dialog : (script : ScriptValue) (values : List NamedValue) → IsSound script
    → Admits script.fields values → IsOneText (get_or (items_of_fields script.fields values) 0 [])
later_dialog script values sound admits =
    let d = dialog_field script.fields sound.some_fields sound.dialog in
    let v = put_in script.fields values 0 d.0 admits d.1 in
    let c = dialog_class d.0.class v.value.value d.2 v.chosen.1 in
    (TextItem v.value.value, v.items ∙ c.0, c.1)

pub dialog_stands : (script : ScriptValue) (values : List NamedValue) (number : ℕ) → IsSound script
    → Admits script.fields values → IsOneText (filling_of script.fields values number).dialog
dialog_stands script values number sound admits =
    elim (cases_Bool (eqb number 1)) [
      | inl first ↦ rw first (TextItem (codes "0"), refl, λ e. cc)
      | inr later ↦ rw later (later_dialog script values sound admits)
    ]
