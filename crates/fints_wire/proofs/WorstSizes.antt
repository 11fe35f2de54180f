-- The longest values make the longest message, and a greater number makes none shorter.
use Rattle.std.proofs.Common.{◌≡◌, ℕ, zero, suc, ◌+◌, ◌^◌, ◌<◌, ◌≤◌, eqb, Bool, true, false, List, [], ◌∷◌, length, map, get_or, refl, ap, ◌∙◌, sym, arith, inl, inr}
use Rattle.std.specs.List.{zip}
use Rattle.std.specs.Fmt.{decimal}
use Rattle.std.specs.Str.Parse.{digits_value}
use Rattle.std.proofs.lemmas.Bool.{cases_Bool}
use Rattle.std.proofs.lemmas.Bool.Decides.{nat_tests}
use Rattle.std.proofs.lemmas.Fmt.{decimal_is_IsNumeral, decimal_nonempty, length-decimal-le}
use Rattle.std.proofs.lemmas.Int.Digits.{digits_value-lt}
use Rattle.std.proofs.lemmas.List.Elements.{All-head, All-tail}
use Rattle.fints_syntax_segments.specs.declared.item.OwnedItem.{OwnedItem}
use Rattle.fints_script_fields.specs.Fields.{field_items, field_longest}
use Rattle.fints_script_fields.specs.FieldLaws.{has_some_item, is_written_as_items, longest_is_admitted, none_is_longer}
use Rattle.fints_script.specs.Plans.{Admits, IsChosen}
use Rattle.fints_script_rows.specs.Fields.{ClassValue}
use Rattle.fints_script.specs.Scripts.{ScriptValue}
use Rattle.fints_script.specs.Sound.{HasDialog, IsSound, IsSoundStep}
use Rattle.fints_script.specs.Steps.{StepValue}
use Rattle.fints_script_rows.specs.declared.fields.NamedField.{NamedField}
use Rattle.fints_script_templates.specs.declared.template.Template.{Template}
use Rattle.fints_script_templates.specs.declared.template.TemplateItem.{TemplateItem}
use Rattle.fints_script_templates.specs.declared.template.TemplateItem.TheVariants as items
use Rattle.fints_script_cases.specs.declared.values.NamedValue.{NamedValue}
use Rattle.fints_wire.specs.Choices.{longest_choice}
use Rattle.fints_wire.specs.Filling.{filling_of, items_of_fields}
use Rattle.fints_wire.specs.Lengths.{element_len, elements_len, item_len, items_size, longest_size, longest_sizes, message_len, middle_len, segments_len, Sizes, sizes_of}
use Rattle.fints_wire.specs.Messages.{message_bytes, seal_of, templates_of}
use Rattle.fints_wire.proofs.Counting.{size_is}
use Rattle.fints_wire.specs.declared.building.TheConstants.{MAX_NUMBER}
use Rattle.fints_wire.proofs.Weighing.{dialog_written, items_size-joined, longest_within, step_short, total_mono}

-- nothing counts for more than in b
pub record IsBelow (a b : Sizes) : Type 0 where
  pub dialog : a.dialog ≤ b.dialog
  pub fields : (i : ℕ) → get_or a.fields i 0 ≤ get_or b.fields i 0

item_mono : (a b : Sizes) (t : TemplateItem) → IsBelow a b → item_len a t ≤ item_len b t
item_mono a b (items.Literal item) h = omega arith
item_mono a b items.Dialog h = h.dialog
item_mono a b (items.Field f) h = h.fields f

elements_mono : (a b : Sizes) (es : List (List TemplateItem)) → IsBelow a b
    → elements_len a es ≤ elements_len b es
elements_mono a b es h = total_mono (element_len a) (element_len b) es (λ e. total_mono (item_len a) (item_len b) e (λ t. item_mono a b t h))

segments_mono : (a b : Sizes) (n : ℕ) (ts : List Template) → IsBelow a b
    → segments_len a n ts ≤ segments_len b n ts
segments_mono a b n [] h = omega arith
segments_mono a b n (t ∷ ts) h =
    let one = elements_mono a b t.elements h in
    let ih = segments_mono a b (n + 1) ts h in
    omega arith

-- a greater number has as many digits at least
decimal_mono : (a b : ℕ) → a ≤ b → b < 2 ^ 64 → length (decimal a) ≤ length (decimal b)
decimal_mono a b le small =
    let n = decimal_is_IsNumeral b small in
    let value : digits_value 10 (decimal b) ≡ b = n.1 in
    let below : digits_value 10 (decimal b) < 10 ^ length (decimal b) = digits_value-lt 10 (decimal b) n.0.1 in
    length-decimal-le (length (decimal b)) a (decimal_nonempty b small) (omega arith) (omega arith)

middle_mono : (sealed : Bool) (x y x' y' : ℕ) → x ≤ x' → y ≤ y' → y' < 2 ^ 64
    → middle_len sealed x y ≤ middle_len sealed x' y'
middle_mono false x y x' y' hx hy small = hy
middle_mono true x y x' y' hx hy small = let d = decimal_mono y y' hy small in omega arith

message_mono : (script : ScriptValue) (step : StepValue) (a b : Sizes) (m n : ℕ) → IsBelow a b → m ≤ n
    → n < 2 ^ 64 → segments_len b 2 (templates_of script step) < 2 ^ 64
    → message_len script step a m ≤ message_len script step b n
message_mono script step a b m n h le small short =
    let d = h.dialog in
    let k = decimal_mono m n le small in
    let seal = elements_mono a b (seal_of script) h in
    let inner = segments_mono a b 2 (templates_of script step) h in
    let mid =
    middle_mono step.sealed (elements_len a (seal_of script))
    (segments_len a 2 (templates_of script step)) (elements_len b (seal_of script))
    (segments_len b 2 (templates_of script step)) seal inner short in
    omega arith

-- ---- the values of fields

abbrev IsPair : NamedField × NamedValue → Type 0
IsPair p = IsChosen p.0 p.1

abbrev value_sizes : List NamedField → List NamedValue → List ℕ
value_sizes fields values = map items_size (items_of_fields fields values)

below_at : (fields : List NamedField) (values : List NamedValue) (i : ℕ) → Admits fields values
    → get_or (value_sizes fields values) i 0 ≤ get_or (map longest_size fields) i 0
below_at [] values i h = omega arith
below_at (f ∷ fs) [] i h = let n = h.0 in absurd (omega arith)
below_at (f ∷ fs) (v ∷ vs) zero h =
    let one : IsPair (f, v) = All-head IsPair (f, v) (zip fs vs) h.1 in
    let size = items_size-joined (field_items f.class v.value) (has_some_item f.class v.value one.1) in
    let text = is_written_as_items f.class v.value one.1 in
    let most = none_is_longer f.class v.value one.1 in
    omega arith
below_at (f ∷ fs) (v ∷ vs) (suc i) h = let n = h.0 in below_at fs vs i (omega arith, All-tail IsPair (f, v) (zip fs vs) h.1)

first_size : (all : List (List OwnedItem)) → items_size (get_or all 0 []) ≡ get_or (map items_size all) 0 0
first_size [] = refl
first_size (x ∷ xs) = refl

-- an admitted choice counts for no more than the longest values, at any greater number
choice_below : (fields : List NamedField) (values : List NamedValue) (m n : ℕ)
    → 2 ≤ get_or (map longest_size fields) 0 0 → Admits fields values → 1 ≤ m → m ≤ n
    → IsBelow (sizes_of (filling_of fields values m)) (longest_sizes fields n)
choice_below fields values m n two h low le =
    let first = below_at fields values 0 h in
    let same = first_size (items_of_fields fields values) in
    record {
      dialog = elim (cases_Bool (eqb m 1)) [
        | inl one ↦ elim (cases_Bool (eqb n 1)) [
          | inl both ↦ rw (one, both) (omega arith)
          | inr more ↦ rw (one, more) (omega arith)
        ]
        | inr some ↦ elim (cases_Bool (eqb n 1)) [
          | inl bad ↦ absurd (grind (arith, nat_tests))
          | inr more ↦ rw (some, more) (omega arith)
        ]
      ];
      fields = λ i. below_at fields values i h;
    }

longest_items : (f : NamedField) → items_size (field_items f.class (field_longest f.class)) ≡ longest_size f
longest_items f =
    let h = longest_is_admitted f.class in
    let size = items_size-joined (field_items f.class (field_longest f.class)) (has_some_item f.class (field_longest f.class) h) in
    let text = is_written_as_items f.class (field_longest f.class) h in
    omega arith

longest_fields : (fields : List NamedField)
    → value_sizes fields (longest_choice fields) ≡ map longest_size fields
longest_fields [] = refl
longest_fields (f ∷ fs) =
    ap (λ (n : ℕ). n ∷ value_sizes fs (longest_choice fs)) (longest_items f)
    ∙ ap (λ (ns : List ℕ). longest_size f ∷ ns) (longest_fields fs)

longest_dialog : (fields : List NamedField) (number : ℕ)
    → (sizes_of (filling_of fields (longest_choice fields) number)).dialog
    ≡ (longest_sizes fields number).dialog
longest_dialog fields number =
    elim (cases_Bool (eqb number 1)) [
      | inl e ↦ rw e refl
      | inr e ↦ rw e (first_size (items_of_fields fields (longest_choice fields)) ∙ ap (λ (ns : List ℕ). get_or ns 0 0) (longest_fields fields))
    ]

abbrev make_sizes : ℕ → List ℕ → Sizes
make_sizes dialog fields = record { dialog = dialog; fields = fields }

attained_sizes : (fields : List NamedField) (number : ℕ)
    → sizes_of (filling_of fields (longest_choice fields) number) ≡ longest_sizes fields number
attained_sizes fields number =
    ap (λ (d : ℕ). make_sizes d (value_sizes fields (longest_choice fields))) (longest_dialog fields number)
    ∙ ap (λ (fs : List ℕ). make_sizes (longest_sizes fields number).dialog fs) (longest_fields fields)

-- the dialogue id may be longer than `0`
two_at_least : (fields : List NamedField) → 1 ≤ length fields → HasDialog fields
    → 2 ≤ get_or (map longest_size fields) 0 0
two_at_least [] some h = absurd (omega arith)
two_at_least (f ∷ fs) some h = let sixty = dialog_written f.class (ap (λ (v : List ℕ × ClassValue). v.1) h) in omega arith

-- ---- messages

module _ (script : ScriptValue) (step : StepValue) (number : ℕ) (sound : IsSound script) (h : IsSoundStep script step) (small : number ≤ MAX_NUMBER) where
  pub size_attained : message_len script step (longest_sizes script.fields number) number ≡ length
      (message_bytes script step number (longest_choice script.fields))
  size_attained =
      let short = step_short script step (longest_sizes script.fields number) number h (longest_within script number sound) small in
      let whole = short.whole in
      let e : message_len script step
      (sizes_of (filling_of script.fields (longest_choice script.fields) number)) number ≡ message_len
      script step (longest_sizes script.fields number) number =
      ap (λ (s : Sizes). message_len script step s number) (attained_sizes script.fields number) in
      let all = size_is script step (filling_of script.fields (longest_choice script.fields) number) number (omega arith) (omega arith) in
      sym e ∙ sym all.1

  pub size_bound : (values : List NamedValue) (lower : ℕ) → Admits script.fields values → 1 ≤ lower
      → lower ≤ number
      → length (message_bytes script step lower values) ≤ message_len script step
      (longest_sizes script.fields number) number
  size_bound values lower admits low le =
      let two = two_at_least script.fields sound.some_fields sound.dialog in
      let short = step_short script step (longest_sizes script.fields number) number h (longest_within script number sound) small in
      let whole = short.whole in
      let inner = short.inner in
      let below = choice_below script.fields values lower number two admits low le in
      let mono =
      message_mono script step (sizes_of (filling_of script.fields values lower))
      (longest_sizes script.fields number) lower number below le (omega arith) (omega arith) in
      let all = size_is script step (filling_of script.fields values lower) lower (omega arith) (omega arith) in
      omega (arith, all.1)

  -- no admitted choice, at this number or a lower one, makes a longer message than the longest values
  pub longest_is_most : (values : List NamedValue) (lower : ℕ) → Admits script.fields values → 1 ≤ lower
      → lower ≤ number
      → length (message_bytes script step lower values) ≤ length
      (message_bytes script step number (longest_choice script.fields))
  longest_is_most values lower admits low le = let bound = size_bound values lower admits low le in let attained = size_attained in omega arith
