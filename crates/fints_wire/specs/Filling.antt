-- Templates with the items of a choice put in. What only private contracts and proofs use comes last, under a heading.
use Rattle.std.specs.Prelude.{◌≡◌, ℕ, ◌==◌, ◌+◌, ◌-◌, ◌<◌, if◌then◌else◌, codes, List, [], ◌∷◌, map, get_or, zip, length, slice_get, All, None, Some}
use Rattle.std.specs.List.{flat_map}
use Rattle.fints_syntax_segments.specs.declared.item.OwnedItem.{OwnedItem}
use Rattle.fints_syntax_segments.specs.declared.item.OwnedItem.TheVariants.{Text}
use Rattle.fints_syntax_segments.specs.declared.item.OwnedSegment.{OwnedSegment}
use Rattle.fints_script_fields.specs.Fields.{field_items}
use Rattle.fints_script_rows.specs.declared.fields.NamedField.{NamedField}
use Rattle.fints_script_cases.specs.declared.values.NamedValue.{NamedValue}
use Rattle.fints_script.specs.Plans.{IsChosen}
use Rattle.fints_script_templates.specs.declared.template.TemplateItem.{TemplateItem}
use Rattle.fints_script_templates.specs.declared.template.TemplateItem.TheVariants.{Literal, Dialog, Field}
use Rattle.fints_script_templates.specs.declared.template.Template.{Template}

-- what a message has for the dialogue id, and for each field in order
pub record FillingValue : Type 0 where
  pub dialog : List OwnedItem
  pub fields : List (List OwnedItem)

-- the items of a field's value
abbrev pub value_items : NamedField × NamedValue → List OwnedItem
value_items p = field_items p.0.class p.1.value

abbrev pub items_of_fields : List NamedField → List NamedValue → List (List OwnedItem)
items_of_fields fields values = map value_items (zip fields values)

-- the dialogue id is `0` in message 1, and afterwards the value of the first field, `dialog`
abbrev pub dialog_items : List (List OwnedItem) → ℕ → List OwnedItem
dialog_items fields number = if number == 1 then Text (codes "0") ∷ [] else get_or fields 0 []

-- what the message of a number is filled with under a choice
abbrev pub filling_of : List NamedField → List NamedValue → ℕ → FillingValue
filling_of fields values number =
    record {
      dialog = dialog_items (items_of_fields fields values) number;
      fields = items_of_fields fields values;
    }

abbrev pub filled_item : FillingValue → TemplateItem → List OwnedItem
filled_item filling (Literal item) = item ∷ []
filled_item filling Dialog = filling.dialog
filled_item filling (Field f) = get_or filling.fields f []

-- the value of a field may be several items of the element
abbrev pub filled_element : FillingValue → List TemplateItem → List OwnedItem
filled_element filling items = flat_map (filled_item filling) items

abbrev pub filled_elements : FillingValue → List (List TemplateItem) → List (List OwnedItem)
filled_elements filling elements = map (filled_element filling) elements

-- a segment of this number, without a reference
abbrev pub make_segment : List ℕ → ℕ → ℕ → List (List OwnedItem) → OwnedSegment
make_segment kind n version elements =
    record {
      head = record { id = kind; number = n; version = version; reference = None };
      elements = elements;
    }

abbrev pub filled_segment : FillingValue → ℕ → Template → OwnedSegment
filled_segment filling n t = make_segment t.kind n t.version (filled_elements filling t.elements)

-- the segments, numbered from n
abbrev pub filled_segments : FillingValue → ℕ → List Template → List OwnedSegment
filled_segments filling n [] = []
filled_segments filling n (t ∷ ts) = filled_segment filling n t ∷ filled_segments filling (n + 1) ts

-- ---- of private contracts and proofs only

-- what is chosen for the field at this place, counted from 0, and the items that messages have for it
pub record IsPutIn (fields : List NamedField) (values : List NamedValue) (f : ℕ) (field : NamedField)
    : Type 0 where
  pub value : NamedValue
  pub there : slice_get values f ≡ Some value
  pub chosen : IsChosen field value
  pub items : get_or (items_of_fields fields values) f [] ≡ field_items field.class value.value

-- each element has an item
abbrev pub AreFilled : FillingValue → List (List TemplateItem) → Type 0
AreFilled filling elements = All (λ items. 0 < length (filled_element filling items)) elements

abbrev pub TemplatesAreFilled : FillingValue → List Template → Type 0
TemplatesAreFilled filling templates = All (λ (t : Template). AreFilled filling t.elements) templates

-- element e of a segment, from 2 on: the head is element 1, and what is absent is empty
abbrev pub element_at : Template → ℕ → List TemplateItem
element_at t e = get_or t.elements (e - 2) []
