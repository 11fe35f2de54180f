-- The segments of a message can be written.
use Rattle.std.proofs.Common.{ℕ, ◌+◌, ◌^◌, ◌<◌, ◌≤◌, Bool, true, false, codes, List, [], ◌∷◌, ◌++◌, length, map, refl, arith}
use Rattle.std.specs.List.{All, AllByRecursion}
use Rattle.std.specs.Option.{IfSome}
use Rattle.std.specs.Fmt.{decimal}
use Rattle.std.proofs.lemmas.List.{length-append}
use Rattle.std.proofs.lemmas.List.Elements.{All-head, All-map, All-tail, recursion_from_All}
use Rattle.fints_syntax.specs.Kind.{IsKindText}
use Rattle.fints_syntax_segments.specs.Segment.{segment_tokens}
use Rattle.fints_syntax_segments.specs.Written.{written_segment, written_tree, IsWritable}
use Rattle.fints_syntax_segments.specs.declared.item.OwnedItem.{OwnedItem}
use Rattle.fints_syntax_segments.specs.declared.item.OwnedItem.TheVariants.{Text, Bin}
use Rattle.fints_syntax_segments.specs.declared.item.OwnedSegment.{OwnedSegment}
use Rattle.fints_script_templates.specs.Figures.{figures_of}
use Rattle.fints_script.specs.Plans.{Admits}
use Rattle.fints_script.specs.Scripts.{ScriptValue}
use Rattle.fints_script.specs.Sound.{IsSound, IsSoundStep}
use Rattle.fints_script.specs.Steps.{StepValue}
use Rattle.fints_script_templates.specs.Weights.{total}
use Rattle.fints_script_templates.specs.declared.template.Template.{Template}
use Rattle.fints_script_templates.specs.declared.template.TemplateItem.{TemplateItem}
use Rattle.fints_script_cases.specs.declared.values.NamedValue.{NamedValue}
use Rattle.fints_wire.specs.Filling.{AreFilled, FillingValue, filled_element, filled_elements, filled_segments, filling_of, make_segment}
use Rattle.fints_wire.specs.Lengths.{sizes_of}
use Rattle.fints_wire.specs.Messages.{first_segment, inner_segments, last_segment, message_segments, message_size, message_with, middle_segments, seal_of, segments_text, templates_of, twelve_digits}
use Rattle.fints_wire.proofs.Counting.{inner-len}
use Rattle.fints_wire.proofs.FilledLemmas.{dialog_some, sealed_filled, templates_filled}
use Rattle.fints_wire.proofs.ItemCounts.{dialog_few, sealed_few, templates_few, tokens-len}
use Rattle.fints_wire.specs.declared.building.TheConstants.{MAX_NUMBER}
use Rattle.fints_wire.proofs.Weighing.{IsShort, IsSmall, choice_light, message_light, small_templates, step_short}
use Rattle.fints_syntax_segments.specs.declared.limits.TheConstants.{MAX_BYTES}

abbrev HasItem : List OwnedItem → Type 0
HasItem items = 0 < length items

-- a segment within the limits, but for its bytes
pub record IsProper (s : OwnedSegment) : Type 0 where
  pub kind : IsKindText s.head.id
  pub number : s.head.number < 1000
  pub version : s.head.version < 1000
  pub reference : IfSome s.head.reference (λ n. n < 1000)
  pub nonempty : AllByRecursion (λ e. 0 < length e) s.elements
  pub items : length (segment_tokens (written_tree s)) ≤ 20000

make_proper : (kind : List ℕ) (n version : ℕ) (elements : List (List OwnedItem)) → IsKindText kind → n < 1000
    → version < 1000 → AllByRecursion (λ e. 0 < length e) elements → total length elements ≤ 10000
    → IsProper (make_segment kind n version elements)
make_proper kind n version elements k small v h few =
    let tokens = tokens-len (make_segment kind n version elements) in
    record { kind = k; number = small; version = v; reference = tt; nonempty = h; items = omega arith }

-- segments whose text is short
pub all_writable : (ss : List OwnedSegment) → AllByRecursion IsProper ss
    → length (segments_text ss) ≤ MAX_BYTES → AllByRecursion IsWritable ss
all_writable [] h short = tt
all_writable (s ∷ ss) h short =
    let sum = length-append (written_segment s) (segments_text ss) in
    let one = h.0 in
    let w : IsWritable s =
    record {
      id = one.kind;
      number = one.number;
      version = one.version;
      reference = one.reference;
      nonempty = one.nonempty;
      bytes = omega arith;
      items = one.items;
    } in
    (w, all_writable ss h.1 (omega arith))

all_append : (xs ys : List OwnedSegment) → AllByRecursion IsProper xs → AllByRecursion IsProper ys
    → AllByRecursion IsProper (xs ++ ys)
all_append [] ys h g = g
all_append (x ∷ xs) ys h g = (h.0, all_append xs ys h.1 g)

-- ---- filled segments

filled_items : (filling : FillingValue) (elements : List (List TemplateItem)) → AreFilled filling elements
    → AllByRecursion (λ e. 0 < length e) (filled_elements filling elements)
filled_items filling elements h = recursion_from_All HasItem (filled_elements filling elements) (All-map HasItem (filled_element filling) elements h)

module _ (filling : FillingValue) where
  abbrev HasFew : Template → Type 0
  HasFew t = total length (filled_elements filling t.elements) ≤ 10000

  abbrev IsFilled : Template → Type 0
  IsFilled t = AreFilled filling t.elements

  filled_proper : (n : ℕ) (ts : List Template) → All IsSmall ts → All IsFilled ts → All HasFew ts
      → n + length ts ≤ 1000 → AllByRecursion IsProper (filled_segments filling n ts)
  filled_proper n [] small filled few le = tt
  filled_proper n (t ∷ ts) small filled few le =
      let s = All-head IsSmall t ts small in
      let items = filled_items filling t.elements (All-head IsFilled t ts filled) in
      let ih = filled_proper (n + 1) ts (All-tail IsSmall t ts small) (All-tail IsFilled t ts filled) (All-tail HasFew t ts few) (omega arith) in
      (make_proper t.kind n t.version (filled_elements filling t.elements) s.0 (omega arith) s.1 items (All-head HasFew t ts few), ih)

-- ---- the frame

first_proper : (size : ℕ) (dialog : List OwnedItem) (number : ℕ) → 0 < length dialog → length dialog ≤ 1
    → IsProper (first_segment size dialog number)
first_proper size dialog number some few =
    make_proper (codes "HNHBK") 1 3
    ((Text (twelve_digits size) ∷ []) ∷ (Text (codes "300") ∷ []) ∷ dialog ∷ (Text (decimal number) ∷ [])
    ∷ [])
    refl (omega arith) (omega arith) (omega arith, (omega arith, (some, (omega arith, tt))))
    (omega arith)

last_proper : (n number : ℕ) → n < 1000 → IsProper (last_segment n number)
last_proper n number small = make_proper (codes "HNHBS") n 1 ((Text (decimal number) ∷ []) ∷ []) refl small (omega arith) (omega arith, tt) (omega arith)

middle_proper : (sealed : Bool) (seal : List (List OwnedItem)) (inner : List OwnedSegment)
    → AllByRecursion (λ e. 0 < length e) seal → total length seal ≤ 10000 → AllByRecursion IsProper inner
    → AllByRecursion IsProper (middle_segments sealed seal inner)
middle_proper false seal inner some few h = h
middle_proper true seal inner some few h =
    let key = make_proper (codes "HNVSK") 998 3 seal refl (omega arith) (omega arith) some few in
    let data' =
    make_proper (codes "HNVSD") 999 1 ((Bin (segments_text inner) ∷ []) ∷ []) refl (omega arith)
    (omega arith) (omega arith, tt) (omega arith) in
    (key, (data', tt))

-- ---- a step's message

module _ (script : ScriptValue) (step : StepValue) (values : List NamedValue) (number : ℕ)
    (sound : IsSound script) (h : IsSoundStep script step) (admits : Admits script.fields values)
    (small : number ≤ MAX_NUMBER) where
  abbrev filling : FillingValue
  filling = filling_of script.fields values number

  short : IsShort script step (sizes_of filling) number
  short = step_short script step (sizes_of filling) number h (choice_light script values number sound admits) small

  inner_proper : AllByRecursion IsProper (inner_segments script step filling)
  inner_proper =
      let few = short.few in filled_proper filling 2 (templates_of script step)
      (small_templates script step (map figures_of script.fields) h)
      (templates_filled script values number sound admits step h)
      (templates_few script values number sound admits step h) (omega arith)

  pub inner_writable : AllByRecursion IsWritable
      (inner_segments script step (filling_of script.fields values number))
  inner_writable =
      let len = inner-len script step filling in let few = short.inner in all_writable
      (inner_segments script step filling) inner_proper (omega arith)

  message_proper : (size : ℕ) → AllByRecursion IsProper (message_with script step filling number size)
  message_proper size =
      let few = short.few in
      let seal : List (List OwnedItem) = filled_elements filling (seal_of script) in
      let middle =
      middle_proper step.sealed seal (inner_segments script step filling)
      (filled_items filling (seal_of script) (sealed_filled script values number sound admits))
      (sealed_few script values number sound admits) inner_proper in
      let last = last_proper (2 + length (templates_of script step)) number (omega arith) in (
        first_proper size filling.dialog number (dialog_some script values number sound admits)
            (dialog_few script values number sound admits),
        all_append (middle_segments step.sealed seal (inner_segments script step filling))
            (last_segment (2 + length (templates_of script step)) number ∷ []) middle (last, tt),
      )

  pub message_writable : AllByRecursion IsWritable (message_segments script step number values)
  message_writable =
      let light = message_light script step values number sound h admits small in
      let len = light.1 in
      all_writable (message_segments script step number values) (message_proper (message_size script step filling number)) (omega arith)

  pub size_small : message_size script step (filling_of script.fields values number) number < 10 ^ 12
  size_small = let light = message_light script step values number sound h admits small in omega (arith, light.0, light.1)
