-- A choice puts no more items into a template than its fields have at most.
use Rattle.std.proofs.Common.{◌≡◌, ℕ, zero, suc, ◌+◌, ◌≤◌, eqb, List, [], ◌∷◌, ◌++◌, length, map, get_or, Option, Some, None, refl, ap, ◌∙◌, arith, inl, inr}
use Rattle.std.specs.List.{All, zip}
use Rattle.std.specs.Option.{IfSome}
use Rattle.std.proofs.lemmas.Bool.{cases_Bool}
use Rattle.std.proofs.lemmas.List.{length-append, length-map}
use Rattle.std.proofs.lemmas.List.Elements.{All-append, All-head, All-map, All-tail}
use Rattle.fints_syntax_segments.specs.declared.item.OwnedItem.{OwnedItem}
use Rattle.fints_syntax_segments.specs.declared.item.OwnedSegment.{OwnedSegment}
use Rattle.fints_syntax_segments.specs.Segment.{element_tokens, segment_tokens}
use Rattle.fints_syntax_segments.specs.Spelling.{Spelled, written_item}
use Rattle.fints_syntax_segments.specs.Written.{head_items, segment_values, written_elements, written_tree}
use Rattle.fints_script_fields.specs.FieldLaws.{has_few_items}
use Rattle.fints_script_fields.specs.Fields.{field_most_items}
use Rattle.fints_script_templates.specs.Figures.{figures_of}
use Rattle.fints_script.specs.Plans.{Admits, IsChosen}
use Rattle.fints_script_rows.specs.Fields.{ClassValue, class_value}
use Rattle.fints_script.specs.Scripts.{ScriptValue, dialog_value}
use Rattle.fints_script.specs.Sound.{HasDialog, IsSound, IsSoundFrame, IsSoundStep}
use Rattle.fints_script.specs.Steps.{StepValue}
use Rattle.fints_script_templates.specs.Weights.{element_count, item_count, most_items, no_figures, total}
use Rattle.fints_script_fields.specs.declared.field.Field.{Field}
use Rattle.fints_script_fields.specs.declared.field.Field.TheVariants as classes
use Rattle.fints_script_rows.specs.declared.fields.NamedField.{NamedField}
use Rattle.fints_script_templates.specs.declared.template.Template.{Template}
use Rattle.fints_script_templates.specs.declared.template.TemplateItem.{TemplateItem}
use Rattle.fints_script_templates.specs.declared.template.TemplateItem.TheVariants as items
use Rattle.fints_script_cases.specs.declared.values.NamedValue.{NamedValue}
use Rattle.fints_script_templates.specs.declared.weights.FieldWeight.{FieldWeight}
use Rattle.fints_wire.specs.Filling.{FillingValue, filled_element, filled_elements, filled_item, filling_of, items_of_fields}
use Rattle.fints_wire.specs.Messages.{end_template, head_template, no_signer, seal_of, signer_at, signers_of, templates_of}

-- ---- tokens

element_tokens-len : (end : ℕ) (e : List Spelled) → length (element_tokens end e) ≡ length e
element_tokens-len end [] = refl
element_tokens-len end (s ∷ []) = refl
element_tokens-len end (s ∷ t ∷ ss) = let ih = element_tokens-len end (t ∷ ss) in omega arith

segment_tokens-len : (es : List (List Spelled)) → length (segment_tokens es) ≡ total length es
segment_tokens-len [] = refl
segment_tokens-len (e ∷ []) = let one = element_tokens-len 39 e in omega arith
segment_tokens-len (e ∷ f ∷ es) =
    let one = element_tokens-len 43 e in
    let ih = segment_tokens-len (f ∷ es) in
    omega (arith, length-append (element_tokens 43 e) (segment_tokens (f ∷ es)))

written-len : (es : List (List OwnedItem)) → total length (written_elements es) ≡ total length es
written-len [] = refl
written-len (e ∷ es) = let one = length-map e written_item in let ih = written-len es in omega arith

-- a token for each item
pub tokens-len : (s : OwnedSegment)
    → length (segment_tokens (written_tree s)) ≡ length (head_items s.head) + total length s.elements
tokens-len s = segment_tokens-len (written_tree s) ∙ written-len (segment_values s)

-- ---- fillings

-- nothing has more items than the figures say
pub record IsFew (filling : FillingValue) (figures : List FieldWeight) : Type 0 where
  pub dialog : length filling.dialog ≤ 1
  pub fields : (i : ℕ) → length (get_or filling.fields i []) ≤ (get_or figures i no_figures).items

item_few : (filling : FillingValue) (figures : List FieldWeight) (t : TemplateItem) → IsFew filling figures
    → length (filled_item filling t) ≤ item_count figures t
item_few filling figures (items.Literal item) h = omega arith
item_few filling figures items.Dialog h = h.dialog
item_few filling figures (items.Field f) h = h.fields f

element_few : (filling : FillingValue) (figures : List FieldWeight) (e : List TemplateItem)
    → IsFew filling figures → length (filled_element filling e) ≤ element_count figures e
element_few filling figures [] h = omega arith
element_few filling figures (t ∷ ts) h =
    let one = item_few filling figures t h in
    let ih = element_few filling figures ts h in
    omega (arith, length-append (filled_item filling t) (filled_element filling ts))

elements_few : (filling : FillingValue) (figures : List FieldWeight) (es : List (List TemplateItem))
    → IsFew filling figures → total length (filled_elements filling es) ≤ most_items figures es
elements_few filling figures [] h = omega arith
elements_few filling figures (e ∷ es) h =
    let one = element_few filling figures e h in
    let ih = elements_few filling figures es h in
    omega arith

abbrev IsPair : NamedField × NamedValue → Type 0
IsPair p = IsChosen p.0 p.1

field_few : (fields : List NamedField) (values : List NamedValue) (i : ℕ) → Admits fields values
    → length
    (get_or (items_of_fields fields values) i []) ≤ (get_or (map figures_of fields) i no_figures).items
field_few [] values i h = omega arith
field_few (f ∷ fs) [] i h = let n = h.0 in absurd (omega arith)
field_few (f ∷ fs) (v ∷ vs) zero h = let one : IsPair (f, v) = All-head IsPair (f, v) (zip fs vs) h.1 in has_few_items f.class v.value one.1
field_few (f ∷ fs) (v ∷ vs) (suc i) h = let n = h.0 in field_few fs vs i (omega arith, All-tail IsPair (f, v) (zip fs vs) h.1)

dialog_class : (c : Field) → class_value c ≡ dialog_value.1 → field_most_items c ≡ 1
dialog_class (classes.Text c) h = refl
dialog_class (classes.Bin c) h = refl
dialog_class (classes.OneOf c) h = refl
dialog_class (classes.Account c) h = absurd cc

dialog_one : (fields : List NamedField) → 1 ≤ length fields → HasDialog fields
    → (get_or (map figures_of fields) 0 no_figures).items ≡ 1
dialog_one [] some h = absurd (omega arith)
dialog_one (f ∷ fs) some h = dialog_class f.class (ap (λ (v : List ℕ × ClassValue). v.1) h)

module _ (script : ScriptValue) (values : List NamedValue) (number : ℕ) (sound : IsSound script) (admits : Admits script.fields values) where
  abbrev filling : FillingValue
  filling = filling_of script.fields values number

  abbrev figures : List FieldWeight
  figures = map figures_of script.fields

  choice_few : IsFew filling figures
  choice_few =
      let first = field_few script.fields values 0 admits in
      let one = dialog_one script.fields sound.some_fields sound.dialog in
      record {
        dialog = elim (cases_Bool (eqb number 1)) [
          | inl e ↦ rw e (omega arith)
          | inr e ↦ rw e (omega arith)
        ];
        fields = λ i. field_few script.fields values i admits;
      }

  pub dialog_few : length (filling_of script.fields values number).dialog ≤ 1
  dialog_few = choice_few.dialog

  abbrev HasFew : List (List TemplateItem) → Type 0
  HasFew elements = total length (filled_elements filling elements) ≤ 10000

  frame_few : (elements : List (List TemplateItem)) → IsSoundFrame script.fields elements → HasFew elements
  frame_few elements h = let a = elements_few filling figures elements choice_few in let b = h.few in omega arith

  seal_few : (seal : Option (List (List TemplateItem))) → IfSome seal (IsSoundFrame script.fields)
      → HasFew (elim seal [ None ↦ [] | Some seal ↦ seal ])
  seal_few None h = omega arith
  seal_few (Some seal) h = frame_few seal h

  pub sealed_few : total length
      (filled_elements (filling_of script.fields values number) (seal_of script)) ≤ 10000
  sealed_few = seal_few script.seal sound.seal

  abbrev IsFewTemplate : Template → Type 0
  IsFewTemplate t = HasFew t.elements

  pub templates_few : (step : StepValue) → IsSoundStep script step
      → All
      (λ (t : Template).
      total length (filled_elements (filling_of script.fields values number) t.elements) ≤ 10000)
      (templates_of script step)
  templates_few step h =
      let heads : All IsFewTemplate (map head_template (signers_of script step)) =
      All-map IsFewTemplate head_template (signers_of script step)
      (All-map (λ signer. IsFewTemplate (head_template signer)) (signer_at script.signers)
      step.signers
      (λ i d lt.
      frame_few _ (sound.signers (get_or step.signers i d) no_signer (h.signers i d lt)).head)) in
      let ends : All IsFewTemplate (map end_template (signers_of script step)) =
      All-map IsFewTemplate end_template (signers_of script step)
      (All-map (λ signer. IsFewTemplate (end_template signer)) (signer_at script.signers) step.signers
      (λ i d lt.
      frame_few _ (sound.signers (get_or step.signers i d) no_signer (h.signers i d lt)).end)) in
      let body : All IsFewTemplate step.templates = λ i d lt. let one = h.templates i d lt in
      let a = elements_few filling figures (get_or step.templates i d).elements choice_few in
      let b = one.few in omega arith in
      All-append IsFewTemplate (map head_template (signers_of script step))
      (step.templates ++ map end_template (signers_of script step)) heads
      (All-append IsFewTemplate step.templates (map end_template (signers_of script step)) body ends)
