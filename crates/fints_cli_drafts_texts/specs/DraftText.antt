-- The text of a draft: a function of the script that it denotes, and of the numbers in its comments.
use Rattle.std.specs.Prelude.{ℕ, ◌+◌, ◌-◌, ◌==◌, nat_le, nat_lt, Bool, true, false, ◌&&◌, ◌||◌, if◌then◌else◌, List, [], ◌∷◌, ◌++◌, length, codes, decimal, Option, Some, None, slice_get}
use Rattle.std.specs.Char.{encode_utf8}
use Rattle.std.specs.List.{filter, flat_map, join_by, list_all, onto_first}
use Rattle.std.specs.Option.{option_map_or}
use Rattle.std.specs.Str.{bytes_eq}
use Rattle.hex.specs.Hex.{encode_lower}
use Rattle.fints_syntax_segments.specs.declared.item.OwnedItem.TheVariants as literals
use Rattle.fints_script_fields.specs.declared.alphabet.Alphabet.{Alphabet}
use Rattle.fints_script_fields.specs.declared.alphabet.Alphabet.TheVariants.{Digits, Plain, Latin}
use Rattle.fints_script_fields.specs.declared.field.Field.{Field}
use Rattle.fints_script_fields.specs.declared.field.Field.TheVariants as classes
use Rattle.fints_script_cases.specs.declared.answers.Branch.{Branch}
use Rattle.fints_script_cases.specs.declared.answers.Target.{Target}
use Rattle.fints_script_cases.specs.declared.answers.Target.TheVariants as targets
use Rattle.fints_script_rows.specs.declared.fields.NamedField.{NamedField}
use Rattle.fints_script_templates.specs.declared.template.TemplateItem.{TemplateItem}
use Rattle.fints_script_templates.specs.declared.template.TemplateItem.TheVariants as items
use Rattle.fints_script_templates.specs.declared.template.Template.{Template}
use Rattle.fints_script_templates.specs.declared.template.Signer.{Signer}
use Rattle.fints_script.specs.Scripts.{ScriptValue}
use Rattle.fints_script.specs.Steps.{StepValue}
use Rattle.fints_cli_drafts_texts.specs.declared.notes.Notes.{Notes}
use Rattle.fints_cli_drafts_texts.specs.declared.notes.OrderNote.{OrderNote}
use Rattle.fints_cli_drafts_texts.specs.declared.notes.OrderNote.TheVariants.{Nothing, Account, Listed}
use Rattle.fints_cli_drafts_texts.specs.declared.notes.SealNote.{SealNote}

-- ---- strings and arrays

-- the texts of the elements of a list, each with its place, which counts from n
abbrev pub each_from : {X : Type 0} → (ℕ → X → List ℕ) → ℕ → List X → List ℕ
each_from text n [] = []
each_from text n (x ∷ xs) = text n x ++ each_from text (n + 1) xs

-- with commas between
abbrev pub comma : List ℕ
comma = codes ", "

-- an array on one line
abbrev pub array_text : {X : Type 0} → (X → List ℕ) → List X → List ℕ
array_text text xs = codes "[" ++ join_by text comma xs ++ codes "]"

-- a string: `"` before and after
abbrev pub quoted : List ℕ → List ℕ
quoted text = codes "\"" ++ text ++ codes "\""

-- a character of ISO 8859-1 in a string: in UTF-8, with `\` (92) before `"` (34) and `\`
unfoldable pub escaped : ℕ → List ℕ
escaped b = (if b == 34 || b == 92 then codes "\\" else []) ++ encode_utf8 b

-- the string of a text
abbrev pub text_string : List ℕ → List ℕ
text_string text = quoted (flat_map escaped text)

-- ---- items and elements

-- `=` before a text whose first character, `$` (36), `%` (37) or `=` (61), says something else at the front
unfoldable pub text_mark : List ℕ → List ℕ
text_mark [] = []
text_mark (b ∷ bs) = if b == 36 || b == 37 || b == 61 then codes "=" else []

-- the name of the field at a place
abbrev pub field_name : List NamedField → ℕ → List ℕ
field_name fields place = option_map_or (λ own. own.name) (slice_get fields place) []

-- an item: a text, `%` and hex digits, the dialogue's id, or `$` and the name of a field
unfoldable pub item_text : List NamedField → TemplateItem → List ℕ
item_text fields (items.Literal (literals.Text text)) = text_mark text ++ flat_map escaped text
item_text fields (items.Literal (literals.Bin bytes)) = codes "%" ++ encode_lower bytes
item_text fields items.Dialog = codes "$dialog"
item_text fields (items.Field place) = codes "$" ++ field_name fields place

abbrev pub item_string : List NamedField → TemplateItem → List ℕ
item_string fields item = quoted (item_text fields item)

-- an element: one item is a string, any other number of them an array of strings
unfoldable pub element_text : List NamedField → List TemplateItem → List ℕ
element_text fields (item ∷ []) = item_string fields item
element_text fields several = array_text (item_string fields) several

abbrev pub elements_text : List NamedField → List (List TemplateItem) → List ℕ
elements_text fields elements = array_text (element_text fields) elements

-- ---- the seal

-- the key of the seal, where there is one
unfoldable pub seal_row : List NamedField → Option (List (List TemplateItem)) → List ℕ
seal_row fields None = []
seal_row fields (Some elements) = codes "\nseal = " ++ elements_text fields elements ++ codes "\n"

-- the comment on a message whose HNVSK is another one
unfoldable pub seal_note : SealNote → List ℕ
seal_note note =
    codes "# note: element " ++ decimal note.element ++ codes " of HNVSK is another one in message "
    ++ decimal note.message ++ codes "\n"

-- ---- fields

unfoldable pub alphabet_name : Alphabet → List ℕ
alphabet_name Digits = codes "digits"
alphabet_name Plain = codes "plain"
alphabet_name Latin = codes "text"

-- the bounds of the length of values
unfoldable pub bounds_text : ℕ → ℕ → List ℕ
bounds_text least most = codes "min = " ++ decimal least ++ codes "\nmax = " ++ decimal most ++ codes "\n"

-- the line of a listed account
unfoldable pub account_line : List (List ℕ) → List ℕ
account_line account = codes "  " ++ array_text text_string account ++ codes ",\n"

abbrev pub class_name : Field → List ℕ
class_name (classes.Text c) = alphabet_name c.alphabet
class_name (classes.Bin c) = codes "bin"
class_name (classes.OneOf c) = codes "oneof"
class_name (classes.Account c) = codes "account"

-- the keys after the class: bounds, or values
unfoldable pub values_text : Field → List ℕ
values_text (classes.Text c) = bounds_text c.min c.max
values_text (classes.Bin c) = bounds_text c.min c.max
values_text (classes.OneOf c) = codes "values = " ++ array_text text_string c.values ++ codes "\n"
values_text (classes.Account c) = codes "values = [\n" ++ flat_map account_line c.values ++ codes "]\n"

-- the row of a field
unfoldable pub field_row : NamedField → List ℕ
field_row own =
    codes "\n[[field]]\nname = " ++ quoted own.name ++ codes "\nclass = " ++ quoted (class_name own.class)
    ++ codes "\n" ++ values_text own.class

-- the rows of the fields; the first field is the built-in `dialog`, which has none
abbrev pub field_rows : List NamedField → List ℕ
field_rows [] = []
field_rows (dialog ∷ fields) = flat_map field_row fields

-- ---- signers

-- the row of a signer
unfoldable pub signer_row : List NamedField → Signer → List ℕ
signer_row fields signer =
    codes "\n[[signer]]\nname = " ++ quoted signer.name
    ++ codes "\nhead = " ++ elements_text fields signer.head
    ++ codes "\nend = " ++ elements_text fields signer.end ++ codes "\n"

-- the name of the signer at a place
abbrev pub signer_name : List Signer → ℕ → List ℕ
signer_name signers place = option_map_or (λ own. own.name) (slice_get signers place) []

abbrev pub signer_string : List Signer → ℕ → List ℕ
signer_string signers place = quoted (signer_name signers place)

-- ---- the comments before a segment

-- that there is such a number of other accounts
unfoldable pub left_out_text : ℕ → List ℕ
left_out_text count =
    if count == 0 then [] else
    codes "  # Left out of its accounts: " ++ decimal count
    ++ codes " for which the bank doesn't permit it (P8, P9).\n"

unfoldable pub further_text : ℕ → List ℕ
further_text count =
    if count == 0 then [] else
    codes "  # Left out of its accounts: " ++ decimal count
    ++ codes " more, since a field lists at most 100.\n"

-- what is said of the account of an order
unfoldable pub order_note : OrderNote → List ℕ
order_note Nothing = []
order_note Account =
    codes "  # Element 2 is an account: a field of class \"account\" lists those that it may be.\n"
order_note (Listed left_out further) = left_out_text left_out ++ further_text further

-- a printable character of ASCII, a tab (9), or the end of a line (10 and 13)
abbrev pub is_text_byte : ℕ → Bool
is_text_byte b = (nat_le 32 b && nat_le b 126) || b == 9 || b == 10 || b == 13

-- the first byte is `<` (60)
abbrev pub is_markup : List ℕ → Bool
is_markup [] = false
is_markup (b ∷ bs) = b == 60

-- an XML text that is long enough to be shown
unfoldable pub is_shown : List ℕ → Bool
is_shown bytes = nat_lt 20 (length bytes) && is_markup bytes && list_all is_text_byte bytes

-- the lines of a text, without the newlines (10) that end them
abbrev pub lines : List ℕ → List (List ℕ)
lines [] = []
lines (b ∷ bs) = if b == 10 then [] ∷ lines bs else onto_first b (lines bs)

abbrev pub is_no_return : ℕ → Bool
is_no_return b = if b == 13 then false else true

-- a line as a comment, without carriage returns (13)
unfoldable pub comment_line : List ℕ → List ℕ
comment_line line = codes "  #   " ++ filter is_no_return line ++ codes "\n"

-- the item that the lines after it show
unfoldable pub item_heading : ℕ → ℕ → List ℕ
item_heading element item =
    if item == 1 then codes "  # element " ++ decimal element ++ codes ":\n"
    else codes "  # element " ++ decimal element ++ codes ", item " ++ decimal item ++ codes ":\n"

-- the XML text of binary bytes
unfoldable pub bytes_shown : ℕ → ℕ → List ℕ → List ℕ
bytes_shown element item bytes =
    if is_shown bytes then item_heading element item ++ flat_map comment_line (lines bytes) else []

-- that of an item, where it is a binary literal
unfoldable pub item_shown : ℕ → ℕ → TemplateItem → List ℕ
item_shown element item (items.Literal (literals.Bin bytes)) = bytes_shown element item bytes
item_shown element item _ = []

-- those of an element; items count from 1
abbrev pub element_shown : ℕ → List TemplateItem → List ℕ
element_shown n element = each_from (item_shown n) 1 element

-- those of a segment, whose elements count from 2; in HKPAE there is a new PIN, which no comment shows
unfoldable pub segment_shown : Template → List ℕ
segment_shown segment =
    if bytes_eq segment.kind (codes "HKPAE") then [] else each_from element_shown 2 segment.elements

-- ---- segments

-- the key of the elements, where there are some
unfoldable pub elements_key : List NamedField → List (List TemplateItem) → List ℕ
elements_key fields [] = []
elements_key fields (element ∷ elements) = codes ", elements = " ++ elements_text fields (element ∷ elements)

-- a segment on a line
unfoldable pub segment_line : List NamedField → Template → List ℕ
segment_line fields segment =
    codes "  {kind = " ++ quoted segment.kind ++ codes ", version = " ++ decimal segment.version
    ++ elements_key fields segment.elements ++ codes "},\n"

-- what is noted of the segment at a place; nothing where no note is there
abbrev pub order_note_at : List OrderNote → ℕ → List ℕ
order_note_at notes place = option_map_or order_note (slice_get notes place) []

-- a segment at a place of its step, with the comments before it
unfoldable pub segment_text : List NamedField → List OrderNote → ℕ → Template → List ℕ
segment_text fields notes place segment =
    order_note_at notes place ++ segment_shown segment ++ segment_line fields segment

-- ---- steps

unfoldable pub sealed_key : Bool → List ℕ
sealed_key true = codes "sealed = true\n"
sealed_key false = []

-- the key of the signers, where there are some
unfoldable pub signers_key : List Signer → List ℕ → List ℕ
signers_key signers [] = []
signers_key signers (place ∷ places) =
    codes "signers = " ++ array_text (signer_string signers) (place ∷ places) ++ codes "\n"

-- how often the step is sent in a row at most, where that isn't once
unfoldable pub repeat_key : ℕ → List ℕ
repeat_key count = if count == 1 then [] else codes "repeat = " ++ decimal count ++ codes "\n"

-- the segments of a step, and its notes
unfoldable pub segments_key : List NamedField → List OrderNote → List Template → List ℕ
segments_key fields notes segments =
    codes "segments = [\n" ++ each_from (segment_text fields notes) 0 segments ++ codes "]\n"

-- the name of step n; steps count from 1
abbrev pub step_name : List StepValue → ℕ → List ℕ
step_name steps n = option_map_or (λ step. step.name) (slice_get steps (n - 1)) []

-- the word for where an answer leads
abbrev pub target_word : List StepValue → Target → List ℕ
target_word steps (targets.Step n) = step_name steps n
target_word steps targets.Again = codes "again"
target_word steps targets.Stop = codes "stop"

abbrev pub target_string : List StepValue → Target → List ℕ
target_string steps to = quoted (target_word steps to)

unfoldable pub branch_text : List StepValue → Branch → List ℕ
branch_text steps branch =
    codes "{on = " ++ quoted branch.on ++ codes ", to = " ++ target_string steps branch.to ++ codes "}"

-- the key of the branches, where there are some
unfoldable pub branches_key : List StepValue → List Branch → List ℕ
branches_key steps [] = []
branches_key steps (branch ∷ branches) =
    codes "branches = " ++ array_text (branch_text steps) (branch ∷ branches) ++ codes "\n"

unfoldable pub default_key : List StepValue → Target → List ℕ
default_key steps to = codes "default = " ++ target_string steps to ++ codes "\n"

-- the row of a step, with the notes on its segments
unfoldable pub step_row : ScriptValue → List OrderNote → StepValue → List ℕ
step_row script notes step =
    codes "\n[[step]]\nname = " ++ quoted step.name ++ codes "\n" ++ sealed_key step.sealed
    ++ signers_key script.signers step.signers ++ repeat_key step.repeat
    ++ segments_key script.fields notes step.templates ++ branches_key script.steps step.branches
    ++ default_key script.steps step.otherwise

-- the notes on the segments of the step at a place
abbrev pub notes_at : Notes → ℕ → List OrderNote
notes_at notes place = option_map_or (λ orders. orders.items) (slice_get notes.orders.items place) []

-- the row of the step at a place
abbrev pub step_row_at : ScriptValue → Notes → ℕ → StepValue → List ℕ
step_row_at script notes place step = step_row script (notes_at notes place) step

-- ---- the whole text

-- the comment at the top
unfoldable pub opening : List ℕ
opening =
    codes "# The draft of a script, from a recorded dialogue: its run with the case that `fints draft "
    ++ codes "--case` prints\n# sends the recorded messages. What a client makes new for each message is "
    ++ codes "a field, and a run sends one value\n# of it in all messages: the control reference, the "
    ++ codes "date and the time of a signature, the TAN, and the bank's\n# reference of an order. Any "
    ++ codes "other text may be made a field, which has a value of its own in each run: declare\n# the "
    ++ codes "field before the steps, and put its name in the place of the text, as in\n#\n#   "
    ++ codes "[[field]]\n#   name = \"purpose\"\n#   class = \"text\"\n#   min = 1\n#   max = 35\n#\n# "
    ++ codes "and \"$purpose\". The time of the seal is such a text.\n"

-- the text of a draft
unfoldable pub draft_text : ScriptValue → Notes → List ℕ
draft_text script notes =
    opening ++ seal_row script.fields script.seal ++ flat_map seal_note notes.seals.items
    ++ field_rows script.fields ++ flat_map (signer_row script.fields) script.signers
    ++ each_from (step_row_at script notes) 0 script.steps
