-- How long a message is: each item counts with the byte after it. Only private contracts use these words.
use Rattle.fints_syntax_segments.specs.declared.frames.TheConstants.{HNHBK_NUMBER, HNHBK_VERSION, HNHBS_VERSION, HNVSD_NUMBER, HNVSD_VERSION, HNVSK_NUMBER, HNVSK_VERSION}
use Rattle.std.specs.Prelude.{ℕ, ◌+◌, ◌==◌, if◌then◌else◌, codes, List, [], ◌∷◌, length, map, get_or, Bool, true, false}
use Rattle.std.specs.Fmt.{decimal}
use Rattle.fints_syntax_segments.specs.declared.item.OwnedItem.{OwnedItem}
use Rattle.fints_syntax_segments.specs.Spelling.{written}
use Rattle.fints_syntax_segments.specs.Written.{head_items}
use Rattle.fints_script_fields.specs.Fields.{field_longest, field_written}
use Rattle.fints_script_rows.specs.declared.fields.NamedField.{NamedField}
use Rattle.fints_script.specs.Scripts.{ScriptValue}
use Rattle.fints_script.specs.Steps.{StepValue}
use Rattle.fints_script_templates.specs.Weights.{total}
use Rattle.fints_script_templates.specs.declared.template.TemplateItem.{TemplateItem}
use Rattle.fints_script_templates.specs.declared.template.TemplateItem.TheVariants.{Literal, Dialog, Field}
use Rattle.fints_script_templates.specs.declared.template.Template.{Template}
use Rattle.fints_wire.specs.Filling.{FillingValue, make_segment}
use Rattle.fints_wire.specs.Messages.{seal_of, templates_of}

abbrev pub item_size : OwnedItem → ℕ
item_size item = 1 + length (written item)

abbrev pub items_size : List OwnedItem → ℕ
items_size items = total item_size items

-- what the dialogue id and each field count for
pub record Sizes : Type 0 where
  pub dialog : ℕ
  pub fields : List ℕ

abbrev pub sizes_of : FillingValue → Sizes
sizes_of filling = record { dialog = items_size filling.dialog; fields = map items_size filling.fields }

-- a field counts for its longest value at most
abbrev pub longest_size : NamedField → ℕ
longest_size field = 1 + field_written field.class (field_longest field.class)

-- what the dialogue id, which is `0` in message 1, and each field count for at most
abbrev pub longest_sizes : List NamedField → ℕ → Sizes
longest_sizes fields number =
    record {
      dialog = if number == 1 then 2 else get_or (map longest_size fields) 0 0;
      fields = map longest_size fields;
    }

abbrev pub item_len : Sizes → TemplateItem → ℕ
item_len sizes (Literal item) = item_size item
item_len sizes Dialog = sizes.dialog
item_len sizes (Field f) = get_or sizes.fields f 0

abbrev pub element_len : Sizes → List TemplateItem → ℕ
element_len sizes items = total (item_len sizes) items

abbrev pub elements_len : Sizes → List (List TemplateItem) → ℕ
elements_len sizes elements = total (element_len sizes) elements

abbrev pub head_len : List ℕ → ℕ → ℕ → ℕ
head_len kind n version = items_size (head_items (make_segment kind n version []).head)

-- the segment of a template, numbered n
abbrev pub segment_len : Sizes → ℕ → Template → ℕ
segment_len sizes n t = head_len t.kind n t.version + elements_len sizes t.elements

-- segments, numbered from n
abbrev pub segments_len : Sizes → ℕ → List Template → ℕ
segments_len sizes n [] = 0
segments_len sizes n (t ∷ ts) = segment_len sizes n t + segments_len sizes (n + 1) ts

-- a binary item of n bytes, with its own length
abbrev pub binary_size : ℕ → ℕ
binary_size n = 3 + length (decimal n) + n

-- the inner segments, or the envelope round them
abbrev pub middle_len : Bool → ℕ → ℕ → ℕ
middle_len false seal inner = inner
middle_len true seal inner =
    head_len (codes "HNVSK") HNVSK_NUMBER HNVSK_VERSION + seal + head_len (codes "HNVSD") HNVSD_NUMBER
    HNVSD_VERSION + binary_size inner

-- what comes between the first segment and the last
abbrev pub between_len : ScriptValue → StepValue → Sizes → ℕ
between_len script step sizes =
    middle_len step.sealed (elements_len sizes (seal_of script))
    (segments_len sizes 2 (templates_of script step))

abbrev pub number_len : ℕ → ℕ
number_len number = 1 + length (decimal number)

-- the size of the message and the protocol version count 13 and 4
abbrev pub message_len : ScriptValue → StepValue → Sizes → ℕ → ℕ
message_len script step sizes number =
    head_len (codes "HNHBK") HNHBK_NUMBER HNHBK_VERSION + 17 + sizes.dialog + number_len number
    + between_len script step sizes
    + head_len (codes "HNHBS") (2 + length (templates_of script step)) HNHBS_VERSION + number_len number
