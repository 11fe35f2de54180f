-- A choice leaves no element of a script without an item.
use Rattle.std.proofs.Common.{◌≡◌, ℕ, zero, suc, ◌<◌, eqb, List, [], ◌∷◌, ◌++◌, length, map, get_or, Option, Some, None, ap, ◌∙◌, arith, inl, inr}
use Rattle.std.specs.List.{All, zip}
use Rattle.std.specs.Option.{IfSome}
use Rattle.std.proofs.lemmas.Bool.{cases_Bool}
use Rattle.std.proofs.lemmas.List.{length-append}
use Rattle.std.proofs.lemmas.List.Elements.{All-append, All-head, All-map, All-nil, All-tail}
use Rattle.fints_script_fields.specs.FieldLaws.{has_some_item}
use Rattle.fints_script.specs.Plans.{Admits, IsChosen}
use Rattle.fints_script.specs.Scripts.{ScriptValue}
use Rattle.fints_script.specs.Sound.{IsInRange, IsSound, IsSoundFrame, IsSoundStep}
use Rattle.fints_script.specs.Steps.{StepValue}
use Rattle.fints_script_rows.specs.declared.fields.NamedField.{NamedField}
use Rattle.fints_script_templates.specs.declared.template.Template.{Template}
use Rattle.fints_script_templates.specs.declared.template.TemplateItem.{TemplateItem}
use Rattle.fints_script_templates.specs.declared.template.TemplateItem.TheVariants.{Literal, Dialog, Field}
use Rattle.fints_script_cases.specs.declared.values.NamedValue.{NamedValue}
use Rattle.fints_wire.specs.Filling.{AreFilled, TemplatesAreFilled, FillingValue, filled_element, filled_item, filling_of, items_of_fields}
use Rattle.fints_wire.specs.Messages.{end_template, head_template, no_signer, seal_of, signer_at, signers_of, templates_of}

pub filling_is : (filling : FillingValue) (fs fields : List NamedField) (vs values : List NamedValue)
    (number : ℕ) → filling ≡ filling_of fs vs number → fs ≡ fields → vs ≡ values
    → filling ≡ filling_of fields values number
filling_is filling fs fields vs values number e f v =
    e ∙ ap (λ (x : List NamedField). filling_of x vs number) f
    ∙ ap (λ (x : List NamedValue). filling_of fields x number) v

abbrev IsPair : NamedField × NamedValue → Type 0
IsPair p = IsChosen p.0 p.1

field_some : (fields : List NamedField) (values : List NamedValue) → Admits fields values → (f : ℕ)
    → f < length fields → 0 < length (get_or (items_of_fields fields values) f [])
field_some [] values h f lt = absurd (omega arith)
field_some (x ∷ xs) [] h f lt = let n = h.0 in absurd (omega arith)
field_some (x ∷ xs) (v ∷ vs) h zero lt = let one : IsPair (x, v) = All-head IsPair (x, v) (zip xs vs) h.1 in has_some_item x.class v.value one.1
field_some (x ∷ xs) (v ∷ vs) h (suc f) lt = let n = h.0 in field_some xs vs (omega arith, All-tail IsPair (x, v) (zip xs vs) h.1) f (omega arith)

module _ (script : ScriptValue) (values : List NamedValue) (number : ℕ) (sound : IsSound script) (admits : Admits script.fields values) where
  abbrev filling : FillingValue
  filling = filling_of script.fields values number

  pub dialog_some : 0 < length (filling_of script.fields values number).dialog
  dialog_some =
      elim (cases_Bool (eqb number 1)) [
        | inl e ↦ rw e (omega arith)
        | inr e ↦ rw e (field_some script.fields values admits 0 (omega (arith, sound.some_fields)))
      ]

  item_some : (t : TemplateItem) → IsInRange script.fields t → 0 < length (filled_item filling t)
  item_some (Literal item) h = omega arith
  item_some Dialog h = dialog_some
  item_some (Field f) h = field_some script.fields values admits f h.1

  element_some : (items : List TemplateItem) → 0 < length items → All (IsInRange script.fields) items
      → 0 < length (filled_element filling items)
  element_some [] some h = absurd (omega arith)
  element_some (t ∷ ts) some h =
      let one = item_some t (All-head (IsInRange script.fields) t ts h) in
      omega (arith, length-append (filled_item filling t) (filled_element filling ts))

  frame_filled : (elements : List (List TemplateItem)) → IsSoundFrame script.fields elements
      → AreFilled filling elements
  frame_filled elements h = λ k d lt. let e = h.each k d lt in element_some (get_or elements k d) e.some e.within

  seal_filled : (seal : Option (List (List TemplateItem))) → IfSome seal (IsSoundFrame script.fields)
      → AreFilled filling (elim seal [ None ↦ [] | Some seal ↦ seal ])
  seal_filled None h = All-nil (λ items. 0 < length (filled_element filling items))
  seal_filled (Some seal) h = frame_filled seal h

  pub sealed_filled : AreFilled (filling_of script.fields values number) (seal_of script)
  sealed_filled = seal_filled script.seal sound.seal

  abbrev IsFilled : Template → Type 0
  IsFilled t = AreFilled filling t.elements

  pub templates_filled : (step : StepValue) → IsSoundStep script step
      → TemplatesAreFilled (filling_of script.fields values number) (templates_of script step)
  templates_filled step h =
      let heads : All IsFilled (map head_template (signers_of script step)) =
      All-map IsFilled head_template (signers_of script step)
      (All-map (λ signer. IsFilled (head_template signer)) (signer_at script.signers) step.signers
      (λ i d lt.
      frame_filled _
      (sound.signers (get_or step.signers i d) no_signer (h.signers i d lt)).head)) in
      let ends : All IsFilled (map end_template (signers_of script step)) =
      All-map IsFilled end_template (signers_of script step)
      (All-map (λ signer. IsFilled (end_template signer)) (signer_at script.signers) step.signers
      (λ i d lt.
      frame_filled _
      (sound.signers (get_or step.signers i d) no_signer (h.signers i d lt)).end)) in
      let body : All IsFilled step.templates = λ i d lt k e less. let one = (h.templates i d lt).each k e less in element_some _ one.some one.within in
      All-append IsFilled (map head_template (signers_of script step))
      (step.templates ++ map end_template (signers_of script step)) heads
      (All-append IsFilled step.templates (map end_template (signers_of script step)) body ends)
