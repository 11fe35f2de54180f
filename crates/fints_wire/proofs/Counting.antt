-- The length of a message is the sum of its parts.
use Rattle.std.proofs.Common.{◌≡◌, ℕ, zero, suc, ◌+◌, ◌-◌, ◌^◌, ◌<◌, ◌≤◌, eqb, ◌||◌, Bool, true, false, List, [], ◌∷◌, ◌++◌, length, map, get_or, refl, ap, ◌∙◌, arith, replicate}
use Rattle.std.specs.List.{All}
use Rattle.std.specs.Fmt.{decimal}
use Rattle.std.specs.Str.Parse.{AllDigits}
use Rattle.std.proofs.lemmas.List.{append-nil, length-append, length-replicate}
use Rattle.std.proofs.lemmas.List.Concat.{flat_map-append}
use Rattle.std.proofs.lemmas.List.Elements.{All-append, All-from_get_or, All-head, All-replicate, All-tail}
use Rattle.std.proofs.lemmas.Bool.Decides.{nat_tests}
use Rattle.std.proofs.lemmas.Fmt.{length-decimal-le, decimal_is_IsNumeral}
use Rattle.std.proofs.lemmas.Str.Parse.{digit_at}
use Rattle.fints_syntax_segments.specs.declared.item.OwnedItem.{OwnedItem}
use Rattle.fints_syntax_segments.specs.declared.item.OwnedItem.TheVariants.{Bin}
use Rattle.fints_syntax_segments.specs.declared.item.OwnedSegment.{OwnedSegment}
use Rattle.fints_syntax_segments.specs.Segment.{token_bytes, element_tokens, segment_tokens}
use Rattle.fints_syntax_segments.specs.Spelling.{is_separator, text_bytes, unit_bytes, written, written_item, written_unit}
use Rattle.fints_syntax_segments.specs.Written.{element_text, elements_text, head_items, segment_values, written_elements, written_segment}
use Rattle.fints_script_fields.specs.Lengths.{text_len}
use Rattle.fints_script.specs.Scripts.{ScriptValue}
use Rattle.fints_script.specs.Steps.{StepValue}
use Rattle.fints_script_templates.specs.Weights.{total}
use Rattle.fints_script_templates.specs.declared.template.Template.{Template}
use Rattle.fints_script_templates.specs.declared.template.TemplateItem.{TemplateItem}
use Rattle.fints_script_templates.specs.declared.template.TemplateItem.TheVariants.{Literal, Dialog, Field}
use Rattle.fints_wire.specs.Filling.{FillingValue, filled_element, filled_elements, filled_item, filled_segments}
use Rattle.fints_wire.specs.Lengths.{binary_size, element_len, elements_len, head_len, item_len, item_size, items_size, message_len, middle_len, segments_len, sizes_of}
use Rattle.fints_wire.specs.Messages.{inner_segments, last_segment, message_size, message_with, middle_segments, seal_of, segments_text, templates_of, twelve_digits}

-- ---- segments

element_text-len : (end : ℕ) (items : List OwnedItem) → length (element_text end items) ≡ items_size items
element_text-len end [] = refl
element_text-len end (i ∷ []) = omega (arith, ap length (append-nil (written i ++ end ∷ [])), length-append (written i) (end ∷ []))
element_text-len end (i ∷ j ∷ is) =
    let ih = element_text-len end (j ∷ is) in
    omega (arith, length-append (written i ++ 58 ∷ []) (element_text end (j ∷ is)), length-append (written i) (58 ∷ []))

elements_text-more : (e f : List OwnedItem) (es : List (List OwnedItem))
    → elements_text (e ∷ f ∷ es) ≡ element_text 43 e ++ elements_text (f ∷ es)
elements_text-more e f es = flat_map-append token_bytes (element_tokens 43 (map written_item e)) (segment_tokens (written_elements (f ∷ es)))

elements_text-len : (es : List (List OwnedItem)) → length (elements_text es) ≡ total items_size es
elements_text-len [] = refl
elements_text-len (e ∷ []) = let one = element_text-len 39 e in omega arith
elements_text-len (e ∷ f ∷ es) =
    let ih = elements_text-len (f ∷ es) in
    let one = element_text-len 43 e in
    omega (arith, ap length (elements_text-more e f es), length-append (element_text 43 e) (elements_text (f ∷ es)))

abbrev segment_len : OwnedSegment → ℕ
segment_len s = items_size (head_items s.head) + total items_size s.elements

written_segment-len : (s : OwnedSegment) → length (written_segment s) ≡ segment_len s
written_segment-len s = elements_text-len (segment_values s)

segments_text-len : (ss : List OwnedSegment) → length (segments_text ss) ≡ total segment_len ss
segments_text-len [] = refl
segments_text-len (s ∷ ss) =
    let ih = segments_text-len ss in let one = written_segment-len s in omega
    (arith, length-append (written_segment s) (segments_text ss))

pub total-append : {X : Type 0} (f : X → ℕ) (xs ys : List X) → total f (xs ++ ys) ≡ total f xs + total f ys
total-append f [] ys = omega arith
total-append f (x ∷ xs) ys = let ih = total-append f xs ys in omega arith

-- ---- templates

get_or-sizes : (fields : List (List OwnedItem)) (i : ℕ)
    → items_size (get_or fields i []) ≡ get_or (map items_size fields) i 0
get_or-sizes [] i = refl
get_or-sizes (x ∷ xs) zero = refl
get_or-sizes (x ∷ xs) (suc i) = get_or-sizes xs i

filled_item-len : (filling : FillingValue) (t : TemplateItem)
    → items_size (filled_item filling t) ≡ item_len (sizes_of filling) t
filled_item-len filling (Literal item) = omega arith
filled_item-len filling Dialog = refl
filled_item-len filling (Field f) = get_or-sizes filling.fields f

filled_element-len : (filling : FillingValue) (e : List TemplateItem)
    → items_size (filled_element filling e) ≡ element_len (sizes_of filling) e
filled_element-len filling [] = refl
filled_element-len filling (t ∷ ts) =
    total-append item_size (filled_item filling t) (filled_element filling ts)
    ∙ ap (λ (n : ℕ). n + items_size (filled_element filling ts)) (filled_item-len filling t)
    ∙ ap (λ (n : ℕ). item_len (sizes_of filling) t + n) (filled_element-len filling ts)

filled_elements-len : (filling : FillingValue) (es : List (List TemplateItem))
    → total items_size (filled_elements filling es) ≡ elements_len (sizes_of filling) es
filled_elements-len filling [] = refl
filled_elements-len filling (e ∷ es) =
    ap (λ (n : ℕ). n + total items_size (filled_elements filling es)) (filled_element-len filling e)
    ∙ ap (λ (n : ℕ). element_len (sizes_of filling) e + n) (filled_elements-len filling es)

filled_segments-len : (filling : FillingValue) (n : ℕ) (ts : List Template)
    → total segment_len (filled_segments filling n ts) ≡ segments_len (sizes_of filling) n ts
filled_segments-len filling n [] = refl
filled_segments-len filling n (t ∷ ts) =
    ap (λ (x : ℕ). head_len t.kind n t.version + x + total segment_len (filled_segments filling (n + 1) ts)) (filled_elements-len filling t.elements)
    ∙ ap (λ (x : ℕ). head_len t.kind n t.version + elements_len (sizes_of filling) t.elements + x) (filled_segments-len filling (n + 1) ts)

-- the text of the inner segments is as long as the sum says
pub inner-len : (script : ScriptValue) (step : StepValue) (filling : FillingValue)
    → length (segments_text (inner_segments script step filling)) ≡ segments_len (sizes_of filling) 2
    (templates_of script step)
inner-len script step filling = segments_text-len (inner_segments script step filling) ∙ filled_segments-len filling 2 (templates_of script step)

-- ---- digits

-- no byte that is escaped
abbrev pub IsBare : ℕ → Type 0
IsBare b = length (unit_bytes (written_unit b)) ≡ 1

pub bare_len : (v : List ℕ) → All IsBare v → text_len v ≡ length v
bare_len [] h = refl
bare_len (b ∷ bs) h =
    let one : length (unit_bytes (written_unit b)) ≡ 1 = All-head IsBare b bs h in
    let ih = bare_len bs (All-tail IsBare b bs h) in
    omega (arith, length-append (unit_bytes (written_unit b)) (text_bytes (map written_unit bs)))

pub is_bare : (b : ℕ) → (is_separator b || eqb b 63 || eqb b 64) ≡ false → IsBare b
is_bare b h = rw h refl

digit_bare : (b : ℕ) → 48 ≤ b → b ≤ 57 → IsBare b
digit_bare b low high = is_bare b (grind (arith, nat_tests))

decimal_bare : (n : ℕ) → n < 2 ^ 64 → All IsBare (decimal n)
decimal_bare n small =
    let digits : AllDigits 10 (decimal n) = (decimal_is_IsNumeral n small).0.1 in
    All-from_get_or IsBare (decimal n) 0 (λ i lt. let range = digit_at (decimal n) i digits lt in digit_bare (get_or (decimal n) i 0) range.0 range.1)

-- a number is written as its digits
pub number_text-len : (n : ℕ) → n < 2 ^ 64 → text_len (decimal n) ≡ length (decimal n)
number_text-len n small = bare_len (decimal n) (decimal_bare n small)

fill_len : (n fill : ℕ) → length (replicate n fill) ≡ n
fill_len n fill = length-replicate n fill

pub twelve_digits-len : (n : ℕ) → n < 10 ^ 12 → length (twelve_digits n) ≡ 12
twelve_digits-len n small =
    let short = length-decimal-le 12 n (omega arith) small (omega arith) in
    let zeros = fill_len (12 - length (decimal n)) 48 in
    omega (arith, length-append (replicate (12 - length (decimal n)) 48) (decimal n))

size_text-len : (n : ℕ) → n < 10 ^ 12 → text_len (twelve_digits n) ≡ 12
size_text-len n small =
    bare_len (twelve_digits n)
    (All-append IsBare (replicate (12 - length (decimal n)) 48) (decimal n)
    (All-replicate IsBare (12 - length (decimal n)) 48 refl) (decimal_bare n (omega arith)))
    ∙ twelve_digits-len n small

-- ---- messages

binary-len : (bytes : List ℕ) → item_size (Bin bytes) ≡ binary_size (length bytes)
binary-len bytes = omega (arith, length-append (decimal (length bytes)) (64 ∷ bytes))

middle-len : (sealed : Bool) (seal : List (List OwnedItem)) (inner : List OwnedSegment)
    → total segment_len (middle_segments sealed seal inner) ≡ middle_len sealed (total items_size seal)
    (total segment_len inner)
middle-len false seal inner = refl
middle-len true seal inner =
    let text = segments_text-len inner in
    let bin : item_size (Bin (segments_text inner)) ≡ binary_size (total segment_len inner) =
    binary-len (segments_text inner) ∙ ap (λ (n : ℕ). binary_size n) text in
    omega arith

-- however the size is given, the message is as long
message_with-len : (script : ScriptValue) (step : StepValue) (filling : FillingValue) (number size : ℕ)
    → number < 2 ^ 64 → size < 10 ^ 12
    → length (segments_text (message_with script step filling number size)) ≡ message_len script step
    (sizes_of filling) number
message_with-len script step filling number size small short =
    let inner : List OwnedSegment = inner_segments script step filling in
    let seal : List (List OwnedItem) = filled_elements filling (seal_of script) in
    let middle : List OwnedSegment = middle_segments step.sealed seal inner in
    let last : OwnedSegment = last_segment (2 + length (templates_of script step)) number in
    let all = segments_text-len (message_with script step filling number size) in
    let split = total-append segment_len middle (last ∷ []) in
    let mid : total segment_len middle ≡ middle_len step.sealed
    (elements_len (sizes_of filling) (seal_of script))
    (segments_len (sizes_of filling) 2 (templates_of script step)) =
    middle-len step.sealed seal inner
    ∙ ap (λ (x : ℕ). middle_len step.sealed x (total segment_len inner)) (filled_elements-len filling (seal_of script))
    ∙ ap (λ (x : ℕ). middle_len step.sealed (elements_len (sizes_of filling) (seal_of script)) x) (filled_segments-len filling 2 (templates_of script step)) in
    let n = number_text-len number small in
    let z = size_text-len size short in
    omega arith

-- the size in the first segment is the length of the whole
pub size_is : (script : ScriptValue) (step : StepValue) (filling : FillingValue) (number : ℕ)
    → number < 2 ^ 64 → message_len script step (sizes_of filling) number < 10 ^ 12
    → (message_size script step filling number ≡ message_len script step (sizes_of filling) number)
    × (length
    (segments_text (message_with script step filling number (message_size script step filling number)))
    ≡ message_len
    script step (sizes_of filling) number)
size_is script step filling number small short =
    let size : message_size script step filling number ≡ message_len script step (sizes_of filling) number =
    message_with-len script step filling number 0 small (omega arith) in
    (size, message_with-len script step filling number (message_size script step filling number) small (omega arith))
