-- What the elements in a script's text are: the items of templates, or the first kind of fault in them.
use Rattle.std.specs.Prelude.{codes, ℕ, Bool, false, ◌&&◌, not, if◌then◌else◌, List, [], ◌∷◌, slice_get, Option, Some, None, Result, Ok, Err}
use Rattle.std.specs.Str.{bytes_eq}
use Rattle.hex.specs.Hex.{decode_of}
use Rattle.toml.specs.Data.{Data, string, array}
use Rattle.fints_syntax_segments.specs.declared.item.OwnedItem.TheVariants.{Text, Bin}
use Rattle.fints_syntax_texts.specs.Document.{item_list}
use Rattle.fints_script_rows.specs.NamedFields.{is_account_at, place_of_field}
use Rattle.fints_script_rows.specs.Parts.{Part, ◌>>=◌, each, entries_of, not_empty}
use Rattle.fints_script_rows.specs.Texts.{is_latin1, latin1}
use Rattle.fints_script_templates.specs.ItemTexts.{Reading, reference, hex, literal, reading_of}
use Rattle.fints_script_rows.specs.declared.fault.FaultKind.TheVariants as kinds
use Rattle.fints_script_rows.specs.declared.fields.NamedField.{NamedField}
use Rattle.fints_script_templates.specs.declared.template.TemplateItem.{TemplateItem}
use Rattle.fints_script_templates.specs.declared.template.TemplateItem.TheVariants as items

-- ---- items

-- the field at a place; one of listed accounts is allowed only where `free`
abbrev pub field_at : List NamedField → Bool → Option ℕ → Part TemplateItem
field_at fields free None = Err kinds.NoSuchName
field_at fields free (Some place) =
    if not free && is_account_at (slice_get fields place) then Err kinds.WrongKind else Ok (items.Field place)

-- `$dialog` is the dialogue id, and `$` with another name the field of that name
abbrev pub reference_in : List NamedField → Bool → List ℕ → Part TemplateItem
reference_in fields free name =
    if bytes_eq name (codes "dialog") then Ok items.Dialog
    else field_at fields free (place_of_field fields name)

-- the binary item of bytes that were read
abbrev pub bin_of : {E : Type 0} → Result (List ℕ) E → Part TemplateItem
bin_of (Ok bytes) = Ok (items.Literal (Bin bytes))
bin_of (Err bad) = Err kinds.BadHex

abbrev pub literal_in : List ℕ → Part TemplateItem
literal_in text = if is_latin1 text then Ok (items.Literal (Text (latin1 text))) else Err kinds.NotLatin1

-- hex digits come in pairs, in either case
abbrev pub reading_in : List NamedField → Bool → Reading → Part TemplateItem
reading_in fields free (reference name) = reference_in fields free name
reading_in fields free (hex digits) = bin_of (decode_of digits)
reading_in fields free (literal text) = literal_in text

-- an item is a string
abbrev pub item_in : List NamedField → Bool → Data → Part TemplateItem
item_in fields free (string text) = reading_in fields free (reading_of text)
item_in fields free _ = Err kinds.WrongKind

-- ---- elements

-- an array has an item, and no account field
abbrev pub array_in : List NamedField → List Data → Part (List TemplateItem)
array_in fields ds = not_empty ds >>= each (item_in fields false)

-- an element is a string, or an array of strings
abbrev pub element_in : List NamedField → Bool → Data → Part (List TemplateItem)
element_in fields free (array ds) = array_in fields (item_list ds)
element_in fields free d = item_in fields free d >>= λ item. Ok (item ∷ [])

-- a list of elements is an array
abbrev pub elements_in : List NamedField → Bool → Data → Part (List (List TemplateItem))
elements_in fields free d = entries_of d >>= each (element_in fields free)
