-- A message is no longer than the weight of its step, and what is around it.
use Rattle.std.proofs.Common.{◌≡◌, ℕ, zero, suc, ◌+◌, ◌^◌, ◌<◌, ◌≤◌, eqb, Bool, true, false, codes, List, [], ◌∷◌, ◌++◌, length, map, get_or, drop, replicate, Option, Some, None, refl, ap, ◌∙◌, sym, arith, inl, inr}
use Rattle.std.specs.List.{All, slice_get, zip}
use Rattle.std.specs.Option.{option_map_or}
use Rattle.std.proofs.lemmas.Bool.{cases_Bool}
use Rattle.std.proofs.lemmas.Bool.Decides.{nat_tests}
use Rattle.std.proofs.lemmas.Fmt.{length-decimal-le}
use Rattle.std.proofs.lemmas.List.{drop_all, drop_more, length-append}
use Rattle.std.proofs.lemmas.List.Sums.{AllPass-from_list_all}
use Rattle.std.proofs.lemmas.List.Elements.{All-append, All-head, All-map, All-tail}
use Rattle.fints_syntax.specs.Kind.{IsKindText}
use Rattle.fints_syntax.specs.KindLaws.{is_kind_byte, spelled_kind}
use Rattle.fints_syntax_segments.specs.Spelling.{written}
use Rattle.fints_syntax_segments.specs.declared.item.OwnedItem.{OwnedItem}
use Rattle.fints_script_fields.specs.ClassLaws.{text_len_marks}
use Rattle.fints_script_fields.specs.Classes.{longest_character}
use Rattle.fints_script_fields.specs.declared.alphabet.Alphabet.TheVariants.{Latin}
use Rattle.fints_script_fields.specs.Fields.{field_items, field_longest, field_written}
use Rattle.fints_script_fields.specs.FieldLaws.{has_some_item, is_written_as_items, none_is_longer}
use Rattle.fints_script_templates.specs.Figures.{figures_of}
use Rattle.fints_script_fields.specs.Joined.{joined}
use Rattle.fints_script_fields.specs.Lengths.{text_len}
use Rattle.fints_script.specs.Plans.{Admits, IsChosen}
use Rattle.fints_script_rows.specs.Fields.{ClassValue, class_value}
use Rattle.fints_script.specs.Scripts.{ScriptValue, dialog_value}
use Rattle.fints_script.specs.Sound.{HasDialog, IsSound, IsSoundStep}
use Rattle.fints_script.specs.Steps.{StepValue, seal_weight, signature_weight}
use Rattle.fints_script_templates.specs.Weights.{element_weight, item_weight, no_figures, segment_weight, signer_weight, total}
use Rattle.fints_script_fields.specs.declared.alphabet.Alphabet.{Alphabet}
use Rattle.fints_script_fields.specs.declared.field.Field.{Field}
use Rattle.fints_script_fields.specs.declared.field.Field.TheVariants as classes
use Rattle.fints_script_rows.specs.declared.fields.NamedField.{NamedField}
use Rattle.fints_script_templates.specs.declared.template.Signer.{Signer}
use Rattle.fints_script_templates.specs.declared.template.Template.{Template}
use Rattle.fints_script_templates.specs.declared.template.TemplateItem.{TemplateItem}
use Rattle.fints_script_templates.specs.declared.template.TemplateItem.TheVariants as items
use Rattle.fints_script_cases.specs.declared.values.NamedValue.{NamedValue}
use Rattle.fints_script_templates.specs.declared.weights.FieldWeight.{FieldWeight}
use Rattle.fints_wire.specs.Filling.{FillingValue, filling_of, items_of_fields}
use Rattle.fints_wire.specs.Lengths.{element_len, elements_len, head_len, item_len, items_size, longest_size, longest_sizes, message_len, middle_len, segments_len, Sizes, sizes_of}
use Rattle.fints_wire.specs.Messages.{end_template, head_template, message_bytes, message_size, no_signer, seal_of, signer_at, signers_of, templates_of}
use Rattle.fints_wire.proofs.Counting.{IsBare, bare_len, is_bare, number_text-len, size_is, total-append}
use Rattle.fints_wire.specs.declared.building.TheConstants.{MAX_NUMBER}
use Rattle.fints_wire.proofs.PartLemmas.{has_parts}
use Rattle.fints_syntax_segments.specs.declared.limits.TheConstants.{MAX_BYTES}

pub total_mono : {X : Type 0} (f g : X → ℕ) (xs : List X) → ((x : X) → f x ≤ g x) → total f xs ≤ total g xs
total_mono f g [] h = omega arith
total_mono f g (x ∷ xs) h = let one = h x in let ih = total_mono f g xs h in omega arith

total-map : {X Y : Type 0} (f : Y → ℕ) (g : X → Y) (xs : List X)
    → total f (map g xs) ≡ total (λ x. f (g x)) xs
total-map f g [] = refl
total-map f g (x ∷ xs) = let ih = total-map f g xs in omega arith

-- ---- items and elements

-- nothing counts for more than it weighs
pub record IsWithin (sizes : Sizes) (figures : List FieldWeight) : Type 0 where
  pub dialog : sizes.dialog ≤ 61
  pub fields : (i : ℕ) → get_or sizes.fields i 0 ≤ 1 + (get_or figures i no_figures).written

item_light : (sizes : Sizes) (figures : List FieldWeight) (t : TemplateItem) → IsWithin sizes figures
    → item_len sizes t ≤ item_weight figures t
item_light sizes figures (items.Literal item) h = omega arith
item_light sizes figures items.Dialog h = h.dialog
item_light sizes figures (items.Field f) h = h.fields f

elements_light : (sizes : Sizes) (figures : List FieldWeight) (es : List (List TemplateItem))
    → IsWithin sizes figures → elements_len sizes es ≤ total (element_weight figures) es
elements_light sizes figures es h =
    total_mono (element_len sizes) (element_weight figures) es
    (λ e. total_mono (item_len sizes) (item_weight figures) e (λ t. item_light sizes figures t h))

-- ---- heads of segments

kind_bare : (b : ℕ) → is_kind_byte b ≡ true → IsBare b
kind_bare b h = is_bare b (grind (arith, nat_tests))

-- an identifier is written as its characters
kind_text : (kind : List ℕ) → IsKindText kind → text_len kind ≡ length kind
kind_text kind k =
    bare_len kind
    (λ i d lt. kind_bare (get_or kind i d) (AllPass-from_list_all is_kind_byte kind (spelled_kind kind k).each i d lt))

pub kind_len : (kind : List ℕ) → IsKindText kind → text_len kind ≤ 6
kind_len kind k = omega (arith, kind_text kind k, (spelled_kind kind k).most)

head_light : (kind : List ℕ) (n version : ℕ) → IsKindText kind → n < 1000 → version < 1000
    → head_len kind n version ≤ 15
head_light kind n version k small v =
    let a = kind_len kind k in
    let b = number_text-len n (omega arith) in
    let c = number_text-len version (omega arith) in
    let d = length-decimal-le 3 n (omega arith) (omega arith) (omega arith) in
    let e = length-decimal-le 3 version (omega arith) (omega arith) (omega arith) in
    omega arith

-- ---- segments

-- a segment's kind and version are short
abbrev pub IsSmall : Template → Type 0
IsSmall t = IsKindText t.kind × (t.version < 1000)

abbrev template_weight : List FieldWeight → Template → ℕ
template_weight figures t = segment_weight figures t.elements

segments_light : (sizes : Sizes) (figures : List FieldWeight) (n : ℕ) (ts : List Template)
    → IsWithin sizes figures → All IsSmall ts → n + length ts ≤ 1000
    → segments_len sizes n ts ≤ total (template_weight figures) ts
segments_light sizes figures n [] w h few = omega arith
segments_light sizes figures n (t ∷ ts) w h few =
    let s = All-head IsSmall t ts h in
    let head = head_light t.kind n t.version s.0 (omega arith) s.1 in
    let one = elements_light sizes figures t.elements w in
    let ih = segments_light sizes figures (n + 1) ts w (All-tail IsSmall t ts h) (omega arith) in
    omega arith

slice_get_in : {X : Type 0} (xs : List X) (i : ℕ) (d : X) → i < length xs
    → slice_get xs i ≡ Some (get_or xs i d)
slice_get_in [] i d lt = absurd (omega arith)
slice_get_in (x ∷ xs) zero d lt = refl
slice_get_in (x ∷ xs) (suc i) d lt = slice_get_in xs i d (omega arith)

module _ (figures : List FieldWeight) (signers : List Signer) where
  abbrev head_weight : ℕ → ℕ
  head_weight place = segment_weight figures (signer_at signers place).head

  abbrev end_weight : ℕ → ℕ
  end_weight place = segment_weight figures (signer_at signers place).end

  signatures_weight : (places : List ℕ) → All (λ (place : ℕ). place < length signers) places
      → total (signature_weight figures signers) places ≡ total head_weight places + total end_weight places
  signatures_weight [] h = refl
  signatures_weight (p ∷ ps) h =
      let here : signature_weight figures signers p ≡ head_weight p + end_weight p =
      ap (λ (o : Option Signer). option_map_or (signer_weight figures) o 0)
      (slice_get_in signers p no_signer (All-head (λ (place : ℕ). place < length signers) p ps h)) in
      let ih = signatures_weight ps (All-tail (λ (place : ℕ). place < length signers) p ps h) in
      omega arith

module _ (script : ScriptValue) (step : StepValue) (figures : List FieldWeight) (h : IsSoundStep script step) where
  templates_weight : total (template_weight figures) (templates_of script step) ≡ total
      (template_weight figures) step.templates + total (signature_weight figures script.signers) step.signers
  templates_weight =
      let heads : List Template = map head_template (signers_of script step) in
      let ends : List Template = map end_template (signers_of script step) in
      let all = total-append (template_weight figures) heads (step.templates ++ ends) in
      let later = total-append (template_weight figures) step.templates ends in
      let a : total (template_weight figures) heads ≡ total (head_weight figures script.signers) step.signers =
      total-map (template_weight figures) head_template (signers_of script step)
      ∙ total-map (λ (s : Signer). segment_weight figures s.head) (signer_at script.signers) step.signers in
      let b : total (template_weight figures) ends ≡ total (end_weight figures script.signers) step.signers =
      total-map (template_weight figures) end_template (signers_of script step)
      ∙ total-map (λ (s : Signer). segment_weight figures s.end) (signer_at script.signers) step.signers in
      let both = signatures_weight figures script.signers step.signers h.signers in
      omega arith

  pub small_templates : All IsSmall (templates_of script step)
  small_templates =
      let heads : All IsSmall (map head_template (signers_of script step)) =
      All-map IsSmall head_template (signers_of script step) (λ i d lt. (refl, omega arith)) in
      let ends : All IsSmall (map end_template (signers_of script step)) =
      All-map IsSmall end_template (signers_of script step) (λ i d lt. (refl, omega arith)) in
      let body : All IsSmall step.templates = λ i d lt. let t = h.templates i d lt in (t.kind, omega (arith, t.most)) in
      All-append IsSmall (map head_template (signers_of script step))
      (step.templates ++ map end_template (signers_of script step)) heads
      (All-append IsSmall step.templates (map end_template (signers_of script step)) body ends)

-- ---- messages

middle_light : (sizes : Sizes) (figures : List FieldWeight) (sealed : Bool)
    (seal : Option (List (List TemplateItem))) (inner : ℕ) → IsWithin sizes figures → inner < 10 ^ 7
    → middle_len sealed (elements_len sizes (elim seal [ None ↦ [] | Some seal ↦ seal ]))
    inner ≤ inner + seal_weight figures sealed seal + 40
middle_light sizes figures false seal inner w small = omega arith
middle_light sizes figures true None inner w small =
    let a = head_light (codes "HNVSK") 998 3 refl (omega arith) (omega arith) in
    let b = head_light (codes "HNVSD") 999 1 refl (omega arith) (omega arith) in
    let c = length-decimal-le 7 inner (omega arith) small (omega arith) in
    omega arith
middle_light sizes figures true (Some seal) inner w small =
    let a = head_light (codes "HNVSK") 998 3 refl (omega arith) (omega arith) in
    let b = head_light (codes "HNVSD") 999 1 refl (omega arith) (omega arith) in
    let c = length-decimal-le 7 inner (omega arith) small (omega arith) in
    let d = elements_light sizes figures seal w in
    omega arith

seal_light : (sizes : Sizes) (figures : List FieldWeight) (seal : Option (List (List TemplateItem)))
    → IsWithin sizes figures
    → elements_len sizes (elim seal [ None ↦ [] | Some seal ↦ seal ]) ≤ seal_weight figures true seal
seal_light sizes figures None w = omega arith
seal_light sizes figures (Some seal) w = let d = elements_light sizes figures seal w in omega arith

-- a step's message is short
pub record IsShort (script : ScriptValue) (step : StepValue) (sizes : Sizes) (number : ℕ) : Type 0 where
  pub inner : segments_len sizes 2 (templates_of script step) ≤ 1000000
  pub seal : step.sealed ≡ true → elements_len sizes (seal_of script) ≤ 1000000
  pub few : length (templates_of script step) ≤ 118
  pub whole : message_len script step sizes number < MAX_BYTES

pub step_short : (script : ScriptValue) (step : StepValue) (sizes : Sizes) (number : ℕ)
    → IsSoundStep script step → IsWithin sizes (map figures_of script.fields) → number ≤ MAX_NUMBER
    → IsShort script step sizes number
step_short script step sizes number h w small =
    let figures : List FieldWeight = map figures_of script.fields in
    let parts = has_parts script step in
    let few = h.few_signers in
    let short = h.few_templates in
    let light = h.light in
    let weight = templates_weight script step figures h in
    let inner = segments_light sizes figures 2 (templates_of script step) w (small_templates script step figures h) (omega arith) in
    let mid = middle_light sizes figures step.sealed script.seal (segments_len sizes 2 (templates_of script step)) w (omega arith) in
    let k = length-decimal-le 5 number (omega arith) (omega arith) (omega arith) in
    let first = head_light (codes "HNHBK") 1 3 refl (omega arith) (omega arith) in
    let last = head_light (codes "HNHBS") (2 + length (templates_of script step)) 1 refl (omega arith) (omega arith) in
    let dialog = w.dialog in
    let seal = seal_light sizes figures script.seal w in
    record {
      inner = omega arith;
      seal =
          λ sealed.
          let same : seal_weight figures step.sealed script.seal ≡ seal_weight figures true script.seal =
          ap (λ (b : Bool). seal_weight figures b script.seal) sealed in omega arith;
      few = omega arith;
      whole = omega arith;
    }

pub step_light : (script : ScriptValue) (step : StepValue) (sizes : Sizes) (number : ℕ)
    → IsSoundStep script step → IsWithin sizes (map figures_of script.fields) → number ≤ MAX_NUMBER
    → message_len script step sizes number < MAX_BYTES
step_light script step sizes number h w small = (step_short script step sizes number h w small).whole

-- ---- values

pub items_size-joined : (is : List OwnedItem) → 0 < length is → items_size is ≡ 1 + length (joined is)
items_size-joined [] h = absurd (omega arith)
items_size-joined (i ∷ []) h = omega arith
items_size-joined (i ∷ j ∷ is) h = let ih = items_size-joined (j ∷ is) (omega arith) in omega (arith, length-append (written i) (58 ∷ joined (j ∷ is)))

abbrev IsPair : NamedField × NamedValue → Type 0
IsPair p = IsChosen p.0 p.1

field_light : (fields : List NamedField) (values : List NamedValue) (i : ℕ) → Admits fields values
    → get_or (map items_size (items_of_fields fields values)) i
    0 ≤ 1 + (get_or (map figures_of fields) i no_figures).written
field_light [] values i h = omega arith
field_light (f ∷ fs) [] i h = let n = h.0 in absurd (omega arith)
field_light (f ∷ fs) (v ∷ vs) zero h =
    let one : IsPair (f, v) = All-head IsPair (f, v) (zip fs vs) h.1 in
    let size = items_size-joined (field_items f.class v.value) (has_some_item f.class v.value one.1) in
    let text = is_written_as_items f.class v.value one.1 in
    let most = none_is_longer f.class v.value one.1 in
    omega arith
field_light (f ∷ fs) (v ∷ vs) (suc i) h = let n = h.0 in field_light fs vs i (omega arith, All-tail IsPair (f, v) (zip fs vs) h.1)

pub dialog_written : (c : Field) → class_value c ≡ dialog_value.1 → field_written c (field_longest c) ≡ 60
dialog_written (classes.Text c) h =
    let marks = text_len_marks c.max in
    let alphabet : c.alphabet ≡ Latin = cc in
    let most : c.max ≡ 30 = cc in
    let latin : text_len (replicate c.max (longest_character c.alphabet)) ≡ text_len (replicate c.max 63) =
    ap (λ (a : Alphabet). text_len (replicate c.max (longest_character a))) alphabet in
    omega (arith, most)
dialog_written (classes.Bin c) h = absurd cc
dialog_written (classes.OneOf c) h = absurd cc
dialog_written (classes.Account c) h = absurd cc

dialog_figures : (fields : List NamedField) → 1 ≤ length fields → HasDialog fields
    → (get_or (map figures_of fields) 0 no_figures).written ≡ 60
dialog_figures [] some h = absurd (omega arith)
dialog_figures (f ∷ fs) some h = dialog_written f.class (ap (λ (v : List ℕ × ClassValue). v.1) h)

get_or-first : (fields : List (List OwnedItem))
    → items_size (get_or fields 0 []) ≡ get_or (map items_size fields) 0 0
get_or-first [] = refl
get_or-first (x ∷ xs) = refl

pub choice_light : (script : ScriptValue) (values : List NamedValue) (number : ℕ) → IsSound script
    → Admits script.fields values
    → IsWithin (sizes_of (filling_of script.fields values number)) (map figures_of script.fields)
choice_light script values number sound admits =
    let all : List (List OwnedItem) = items_of_fields script.fields values in
    let first = field_light script.fields values 0 admits in
    let same = get_or-first all in
    let sixty = dialog_figures script.fields sound.some_fields sound.dialog in
    record {
      dialog = elim (cases_Bool (eqb number 1)) [
        | inl e ↦ rw e (omega arith)
        | inr e ↦ rw e (omega arith)
      ];
      fields = λ i. field_light script.fields values i admits;
    }

-- the message is as long as its first segment says, and short
pub message_light : (script : ScriptValue) (step : StepValue) (values : List NamedValue) (number : ℕ)
    → IsSound script → IsSoundStep script step → Admits script.fields values → number ≤ MAX_NUMBER
    → (length (message_bytes script step number values) ≡ message_size script step
    (filling_of script.fields values number) number)
    × (length (message_bytes script step number values) < MAX_BYTES)
message_light script step values number sound h admits small =
    let filling : FillingValue = filling_of script.fields values number in
    let short = step_light script step (sizes_of filling) number h (choice_light script values number sound admits) small in
    let sizes = size_is script step filling number (omega arith) (omega arith) in
    (sizes.1 ∙ sym sizes.0, omega (arith, sizes.1))

longest_light : (fields : List NamedField) (i : ℕ)
    → get_or (map longest_size fields) i 0 ≤ 1 + (get_or (map figures_of fields) i no_figures).written
longest_light [] i = omega arith
longest_light (f ∷ fs) zero = omega arith
longest_light (f ∷ fs) (suc i) = longest_light fs i

pub longest_within : (script : ScriptValue) (number : ℕ) → IsSound script
    → IsWithin (longest_sizes script.fields number) (map figures_of script.fields)
longest_within script number sound =
    let sixty = dialog_figures script.fields sound.some_fields sound.dialog in
    let first = longest_light script.fields 0 in
    record {
      dialog = elim (cases_Bool (eqb number 1)) [
        | inl e ↦ rw e (omega arith)
        | inr e ↦ rw e (omega arith)
      ];
      fields = λ i. longest_light script.fields i;
    }

pub segments-drop : (sizes : Sizes) (n i : ℕ) (ts : List Template) (d : Template) → i < length ts
    → segments_len sizes n (drop i ts) ≡ head_len (get_or ts i d).kind n
    (get_or ts i d).version + elements_len sizes (get_or ts i d).elements + segments_len sizes (n + 1)
    (drop (i + 1) ts)
segments-drop sizes n i ts d lt = rw (drop_more ts i d lt) refl

pub segments-end : (sizes : Sizes) (n i : ℕ) (ts : List Template) → length ts ≤ i
    → segments_len sizes n (drop i ts) ≡ 0
segments-end sizes n i ts le = rw (drop_all i ts le) refl
