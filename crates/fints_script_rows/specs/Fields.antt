-- What an entry of `field` is: the name and class of a field, or the first kind of fault in it.
use Rattle.fints_script_fields.specs.declared.counted.TheConstants.{MAX_LEN}
use Rattle.fints_script_fields.specs.declared.listing.TheConstants.{MAX_ITEMS, MAX_VALUES}
use Rattle.std.specs.Prelude.{codes, ℕ, nat_le, nat_lt, Bool, true, false, ◌&&◌, ◌||◌, if◌then◌else◌, List, [], ◌∷◌, length, Ok, Err}
use Rattle.std.specs.Cmp.Lexicographic.{pointwise}
use Rattle.std.specs.List.{list_all, list_any}
use Rattle.std.specs.Str.{bytes_eq}
use Rattle.toml.specs.Data.{Data, string, table, Members}
use Rattle.fints_syntax_texts.specs.Document.{only_keys}
use Rattle.fints_syntax_texts.specs.Entries.{is_called}
use Rattle.fints_script_rows.specs.Parts.{Part, ◌>>=◌, both, each, entries_of, integer_in, required}
use Rattle.fints_script_rows.specs.RowNames.{row_name}
use Rattle.fints_script_rows.specs.Texts.{is_latin1, latin1}
use Rattle.fints_script_fields.specs.declared.alphabet.Alphabet.{Alphabet}
use Rattle.fints_script_fields.specs.declared.alphabet.Alphabet.TheVariants as alphabets
use Rattle.fints_script_fields.specs.declared.field.Field.{Field}
use Rattle.fints_script_fields.specs.declared.field.Field.TheVariants as fields
use Rattle.fints_script_rows.specs.declared.fault.FaultKind.TheVariants as kinds
use Rattle.fints_script_rows.specs.declared.fields.NamedField.{NamedField}
use Rattle.fints_script_rows.specs.declared.field_class.ClassName.{ClassName}
use Rattle.fints_script_rows.specs.declared.field_class.ClassName.TheVariants as names

-- what is seen of a field: its class, with the alphabet, the bounds or the listed values
pub data ClassValue : Type 0 where
  text : Alphabet → ℕ → ℕ → ClassValue
  bin : ℕ → ℕ → ClassValue
  oneof : List (List ℕ) → ClassValue
  account : List (List (List ℕ)) → ClassValue

abbrev pub class_value : Field → ClassValue
class_value (fields.Text c) = text c.alphabet c.min c.max
class_value (fields.Bin c) = bin c.min c.max
class_value (fields.OneOf c) = oneof c.values
class_value (fields.Account c) = account c.values

-- what is seen of a field with its name
abbrev pub field_value : NamedField → List ℕ × ClassValue
field_value field = (field.name, class_value field.class)

-- ---- bounds

-- a length of values
abbrev pub length_at : List ℕ → Members → Part ℕ
length_at key ms = required key ms >>= integer_in 0 MAX_LEN

abbrev pub lengths_in : Members → Part (ℕ × ℕ)
lengths_in ms = both (length_at (codes "min") ms) (length_at (codes "max") ms)

-- a class of these bounds, from a least one on
abbrev pub sized : ℕ → (ℕ → ℕ → ClassValue) → ℕ × ℕ → Part ClassValue
sized least class (min, max) =
    if nat_le least min && nat_le min max then Ok (class min max) else Err kinds.Limit

-- ---- listed values

-- the bytes of a text, one for each character
abbrev pub text_in : Data → Part (List ℕ)
text_in (string s) = if is_latin1 s then Ok (latin1 s) else Err kinds.NotLatin1
text_in _ = Err kinds.WrongKind

-- an account has some texts, and not too many
abbrev pub is_item_count : ℕ → Bool
is_item_count n = nat_lt 0 n && nat_le n MAX_ITEMS

abbrev pub account_of : List Data → Part (List (List ℕ))
account_of ds = if is_item_count (length ds) then each text_in ds else Err kinds.WrongKind

abbrev pub account_in : Data → Part (List (List ℕ))
account_in d = entries_of d >>= account_of

abbrev pub listed_in : Members → Part (List Data)
listed_in ms = required (codes "values") ms >>= entries_of

-- some value is the same as a later one
abbrev pub some_are_same : {X : Type 0} → (X → X → Bool) → List X → Bool
some_are_same same [] = false
some_are_same same (x ∷ xs) = list_any (same x) xs || some_are_same same xs

-- some values, and not too many
abbrev pub is_value_count : ℕ → Bool
is_value_count n = nat_lt 0 n && nat_le n MAX_VALUES

abbrev pub is_short : List ℕ → Bool
is_short s = nat_le (length s) MAX_LEN

-- a class of these values: no two are the same, there are neither none nor too many, and each fits
abbrev pub listing : {X : Type 0} → (X → X → Bool) → (X → Bool) → (List X → ClassValue) → List X
    → Part ClassValue
listing same fits class values =
    if some_are_same same values then Err kinds.Duplicate
    else if is_value_count (length values) && list_all fits values then Ok (class values)
    else Err kinds.Limit

abbrev pub texts_class : List (List ℕ) → Part ClassValue
texts_class texts = listing bytes_eq is_short oneof texts

abbrev pub accounts_class : List (List (List ℕ)) → Part ClassValue
accounts_class accounts = listing (pointwise bytes_eq) (list_all is_short) account accounts

-- ---- the class

abbrev pub class_named : List ℕ → Part ClassName
class_named name =
    if bytes_eq name (codes "digits") then Ok (names.Text alphabets.Digits)
    else if bytes_eq name (codes "plain") then Ok (names.Text alphabets.Plain)
    else if bytes_eq name (codes "text") then Ok (names.Text alphabets.Latin)
    else if bytes_eq name (codes "bin") then Ok names.Bin
    else if bytes_eq name (codes "oneof") then Ok names.OneOf
    else if bytes_eq name (codes "account") then Ok names.Account
    else Err kinds.WrongKind

abbrev pub class_name_in : Data → Part ClassName
class_name_in (string name) = class_named name
class_name_in _ = Err kinds.WrongKind

unfoldable pub class_of : Members → Part ClassName
class_of ms = required (codes "class") ms >>= class_name_in

-- the class of this name that a table's keys give
unfoldable pub class_with : Members → ClassName → Part ClassValue
class_with ms (names.Text alphabet) = lengths_in ms >>= sized 0 (text alphabet)
class_with ms names.Bin = lengths_in ms >>= sized 1 bin
class_with ms names.OneOf = listed_in ms >>= each text_in >>= texts_class
class_with ms names.Account = listed_in ms >>= each account_in >>= accounts_class

abbrev pub class_in : Members → Part ClassValue
class_in ms = class_of ms >>= class_with ms

-- ---- the whole entry

-- the classes with `min` and `max`; the others have `values`
abbrev pub is_sized : ClassName → Bool
is_sized names.OneOf = false
is_sized names.Account = false
is_sized _ = true

-- the keys that a field may have; where it has no class, those of any
abbrev pub field_keys : Part ClassName → List (List ℕ)
field_keys (Err kind) = codes "name" ∷ codes "class" ∷ codes "min" ∷ codes "max" ∷ codes "values" ∷ []
field_keys (Ok class) =
    if is_sized class then codes "name" ∷ codes "class" ∷ codes "min" ∷ codes "max" ∷ [] else codes
    "name" ∷ codes "class" ∷ codes "values" ∷ []

-- the name of the built-in field, or that of an earlier row
abbrev pub is_taken_field : List Data → List ℕ → Bool
is_taken_field earlier name = bytes_eq name (codes "dialog") || list_any (is_called name) earlier

unfoldable pub table_field : List Data → Members → Part (List ℕ × ClassValue)
table_field earlier ms =
    if only_keys (field_keys (class_of ms)) ms then both (row_name (is_taken_field earlier) ms) (class_in ms)
    else Err kinds.UnknownKey

-- the name and the class of an entry after earlier ones
abbrev pub field_in : List Data → Data → Part (List ℕ × ClassValue)
field_in earlier (table ms) = table_field earlier ms
field_in earlier _ = Err kinds.WrongKind
