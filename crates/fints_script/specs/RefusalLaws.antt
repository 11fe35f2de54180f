-- Which kinds of fault each place of a text has, whatever is asked first. Only laws rest on this file.
use Rattle.std.specs.Prelude.{◌≡◌, ◌⊎◌, ◌<◌, ◌≤◌, codes, ℕ, ◌+◌, Bool, true, false, ◌&&◌, not, List, [], ◌∷◌, length, position, slice_get, take, Option, Some, None, is_some, Result, Ok, Err}
use Rattle.std.specs.List.{list_all, list_any}
use Rattle.std.specs.Cmp.Lexicographic.{pointwise}
use Rattle.std.specs.Str.{bytes_eq}
use Rattle.hex.specs.Hex.{decode_of}
use Rattle.toml.specs.Data.{Data, string, integer, boolean, array, table, Members, get_member}
use Rattle.fints_syntax.specs.Kind.{kind_from, is_frame_kind}
use Rattle.fints_syntax_texts.specs.declared.lines.TheConstants.{MAX_TEXT}
use Rattle.fints_syntax_texts.specs.Document.{document, item_list, number_between, only_keys}
use Rattle.fints_syntax_texts.specs.Entries.{is_called}
use Rattle.fints_script_fields.specs.Names.{is_name}
use Rattle.fints_script_fields.specs.declared.counted.TheConstants.{MAX_LEN}
use Rattle.fints_script_cases.specs.Patterns.{pattern_in}
use Rattle.fints_script_rows.specs.FaultOrder.{rank}
use Rattle.fints_script_rows.specs.Fields.{account_in, class_of, field_keys, is_item_count, is_short, is_taken_field, is_value_count, length_at, lengths_in, some_are_same, text_in}
use Rattle.fints_script_rows.specs.NamedFields.{is_account_at, place_of_field}
use Rattle.fints_script_rows.specs.Parts.{Part}
use Rattle.fints_script_rows.specs.Texts.{is_latin1}
use Rattle.fints_script_rows.specs.declared.fault.FaultKind.{FaultKind}
use Rattle.fints_script_rows.specs.declared.fault.FaultKind.TheVariants as kinds
use Rattle.fints_script_rows.specs.declared.fault.Place.{Place}
use Rattle.fints_script_rows.specs.declared.fault.Place.TheVariants as places
use Rattle.fints_script_rows.specs.declared.fault.ScriptFault.{ScriptFault}
use Rattle.fints_script_rows.specs.declared.field_class.ClassName.{ClassName}
use Rattle.fints_script_rows.specs.declared.field_class.ClassName.TheVariants as names
use Rattle.fints_script_rows.specs.declared.fields.NamedField.{NamedField}
use Rattle.fints_script_rows.specs.declared.limits.TheConstants.{MAX_BRANCHES, MAX_FIELDS, MAX_REPEAT, MAX_SEGMENTS, MAX_SIGNATURES, MAX_SIGNERS, MAX_STEPS, MAX_TEMPLATE_ITEMS, MAX_WEIGHT}
use Rattle.fints_script_templates.specs.ItemTexts.{Reading, reference, hex, literal, reading_of}
use Rattle.fints_script_templates.specs.Segments.{segment_in, segment_keys}
use Rattle.fints_script_templates.specs.Signers.{signer_keys}
use Rattle.fints_script_templates.specs.Weights.{total}
use Rattle.fints_script_templates.specs.declared.template.Signer.{Signer}
use Rattle.fints_script_templates.specs.declared.template.Template.{Template}
use Rattle.fints_script_templates.specs.declared.template.TemplateItem.{TemplateItem}
use Rattle.fints_script.specs.Scripts.{DenoteFields, Denotes, IsFirstOf, ScriptValue, Top, seal_from, signers_from, surroundings, top_in, top_keys}
use Rattle.fints_script.specs.Steps.{Surroundings, branch_keys, has_large_segment, is_taken_step, is_word, place_of_signer, step_keys, step_weight, table_step}

-- ---- sets of kinds

abbrev pub Kinds : Type 1
Kinds = FaultKind → Type 0

abbrev pub NoFault : Kinds
NoFault = λ k. ⊥

-- this kind
abbrev pub Just : FaultKind → Kinds
Just kind = λ k. k ≡ kind

-- this kind, where a fact holds
abbrev pub Where : FaultKind → Type 0 → Kinds
Where kind fact = λ k. (k ≡ kind) × fact

-- in one part or the other
infixl 10 ◌∪◌
abbrev pub ◌∪◌ : Kinds → Kinds → Kinds
faults ∪ others = λ k. faults k ⊎ others k

-- in what rests on a value, where a part has one
abbrev pub Behind : {X : Type 0} → Part X → (X → Kinds) → Kinds
Behind {X} part faults = λ k. (x : X) × (part ≡ Ok x) × faults x k

-- in some entry
abbrev pub InSome : (Data → Kinds) → List Data → Kinds
InSome faults [] = NoFault
InSome faults (d ∷ ds) = faults d ∪ InSome faults ds

-- a list is empty, or has more than `most` entries
abbrev pub Empty : List Data → Kinds
Empty [] = Just kinds.WrongKind
Empty (d ∷ ds) = NoFault

abbrev pub Over : ℕ → ℕ → Kinds
Over most count = Where kinds.Limit (most < count)

-- in what should be an array
abbrev pub InArray : (List Data → Kinds) → Data → Kinds
InArray faults (array ds) = faults (item_list ds)
InArray faults _ = Just kinds.WrongKind

-- in what should be an integer from low to high
abbrev pub InInteger : ℕ → ℕ → Data → Kinds
InInteger low high (integer z) = Where kinds.Limit (number_between low high (integer z) ≡ None)
InInteger low high _ = Just kinds.WrongKind

-- in the value of a key that must be there, and of one that may be absent
abbrev pub InNeeded : (Data → Kinds) → Option Data → Kinds
InNeeded faults None = Just kinds.Missing
InNeeded faults (Some d) = faults d

abbrev pub InGiven : (Data → Kinds) → Option Data → Kinds
InGiven faults None = NoFault
InGiven faults (Some d) = faults d

abbrev pub At : Members → List ℕ → (Data → Kinds) → Kinds
At ms key faults = InNeeded faults (get_member key ms)

abbrev pub AtOptional : Members → List ℕ → (Data → Kinds) → Kinds
AtOptional ms key faults = InGiven faults (get_member key ms)

-- in a table that may have these keys: another key, or the values of these
abbrev pub InKeys : List (List ℕ) → Members → Kinds → Kinds
InKeys keys ms faults = Where kinds.UnknownKey (only_keys keys ms ≡ false) ∪ faults

-- in what should be a name that isn't taken
abbrev pub InName : (List ℕ → Bool) → Data → Kinds
InName taken (string text) =
    Where kinds.WrongKind (is_name text ≡ false) ∪ Where kinds.Duplicate (taken text ≡ true)
InName taken _ = Just kinds.WrongKind

-- ---- fields

-- a value's text
abbrev pub InText : Data → Kinds
InText (string text) = Where kinds.NotLatin1 (is_latin1 text ≡ false)
InText _ = Just kinds.WrongKind

-- the texts of an account
abbrev pub InAccount : Data → Kinds
InAccount d =
    InArray (λ ds. Where kinds.WrongKind (is_item_count (length ds) ≡ false) ∪ InSome InText ds) d

abbrev pub InLength : Data → Kinds
InLength d = InInteger 0 MAX_LEN d

-- the shorter bound is below the least that its class has, or above the longer one
abbrev pub TooLow : ℕ → Members → Kinds
TooLow least ms = Behind (length_at (codes "min") ms) (λ min. Where kinds.Limit (min < least))

abbrev pub TooHigh : Members → Kinds
TooHigh ms = Behind (lengths_in ms) (λ bounds. Where kinds.Limit (bounds.1 < bounds.0))

abbrev pub InBounds : ℕ → Members → Kinds
InBounds least ms =
    At ms (codes "min") InLength ∪ At ms (codes "max") InLength ∪ (TooLow least ms ∪ TooHigh ms)

-- the values of the entries that have one
abbrev pub with_one : {X : Type 0} → Part X → List X → List X
with_one (Ok x) xs = x ∷ xs
with_one (Err kind) xs = xs

abbrev pub values_of : {X : Type 0} → (Data → Part X) → List Data → List X
values_of part [] = []
values_of part (d ∷ ds) = with_one (part d) (values_of part ds)

-- listed values: in one of them, or two are the same, or they are too few or too many, or one is too long
abbrev pub InListed : {X : Type 0} → (Data → Part X) → (Data → Kinds) → (X → X → Bool) → (X → Bool)
    → List Data → Kinds
InListed part faults same fits ds =
    InSome faults ds
    ∪ (Where kinds.Duplicate (some_are_same same (values_of part ds) ≡ true)
    ∪ Where kinds.Limit ((is_value_count (length ds) && list_all fits (values_of part ds)) ≡ false))

abbrev pub class_words : List (List ℕ)
class_words =
    codes "digits" ∷ codes "plain" ∷ codes "text" ∷ codes "bin" ∷ codes "oneof" ∷ codes "account" ∷ []

abbrev pub InClassName : Data → Kinds
InClassName (string name) = Where kinds.WrongKind (list_any (bytes_eq name) class_words ≡ false)
InClassName _ = Just kinds.WrongKind

-- what a class of this name has beside it
abbrev pub InClassOf : Members → ClassName → Kinds
InClassOf ms (names.Text alphabet) = InBounds 0 ms
InClassOf ms names.Bin = InBounds 1 ms
InClassOf ms names.OneOf = At ms (codes "values") (InArray (InListed text_in InText bytes_eq is_short))
InClassOf ms names.Account =
    At ms (codes "values") (InArray (InListed account_in InAccount (pointwise bytes_eq) (list_all is_short)))

-- a row of `field` after earlier ones
abbrev pub InField : List Data → Data → Kinds
InField earlier (table ms) =
    InKeys (field_keys (class_of ms)) ms
    (At ms (codes "name") (InName (is_taken_field earlier))
    ∪ (At ms (codes "class") InClassName ∪ Behind (class_of ms) (InClassOf ms)))
InField earlier _ = Just kinds.WrongKind

-- ---- elements

-- a field that is referred to; one of listed accounts is allowed only where `free`
abbrev pub InFieldAt : List NamedField → Bool → Option ℕ → Kinds
InFieldAt fields free None = Just kinds.NoSuchName
InFieldAt fields free (Some place) =
    Where kinds.WrongKind ((not free && is_account_at (slice_get fields place)) ≡ true)

abbrev pub NotHex : {E : Type 0} → Result (List ℕ) E → Kinds
NotHex (Ok bytes) = NoFault
NotHex (Err bad) = Just kinds.BadHex

abbrev pub InReading : List NamedField → Bool → Reading → Kinds
InReading fields free (reference name) =
    λ k. (bytes_eq name (codes "dialog") ≡ false) × InFieldAt fields free (place_of_field fields name) k
InReading fields free (hex digits) = NotHex (decode_of digits)
InReading fields free (literal text) = Where kinds.NotLatin1 (is_latin1 text ≡ false)

abbrev pub InItem : List NamedField → Bool → Data → Kinds
InItem fields free (string text) = InReading fields free (reading_of text)
InItem fields free _ = Just kinds.WrongKind

abbrev pub InElement : List NamedField → Bool → Data → Kinds
InElement fields free (array ds) = Empty (item_list ds) ∪ InSome (InItem fields false) (item_list ds)
InElement fields free d = InItem fields free d

abbrev pub InElements : List NamedField → Bool → Data → Kinds
InElements fields free d = InArray (InSome (InElement fields free)) d

-- ---- segments, signers and the seal

abbrev pub InKind : Data → Kinds
InKind (string text) = Where kinds.WrongKind ((is_frame_kind text ≡ true) ⊎ (kind_from text ≡ None))
InKind _ = Just kinds.WrongKind

abbrev pub InSegment : List NamedField → Data → Kinds
InSegment fields (table ms) =
    InKeys segment_keys ms
    (At ms (codes "kind") InKind
    ∪ At ms (codes "version") (InInteger 1 999)
    ∪ AtOptional ms (codes "elements") (InElements fields true))
InSegment fields _ = Just kinds.WrongKind

-- the items that an element is written with
abbrev pub items_written : Data → ℕ
items_written (array ds) = length (item_list ds)
items_written _ = 1

abbrev pub all_items : Data → ℕ
all_items (array ds) = total items_written (item_list ds)
all_items _ = 0

-- the elements of a signer's segment or of the seal
abbrev pub InFrame : List NamedField → Data → Kinds
InFrame fields d = InElements fields false d ∪ Over MAX_TEMPLATE_ITEMS (all_items d)

-- a row of `signer` after earlier ones
abbrev pub InSigner : List NamedField → List Data → Data → Kinds
InSigner fields earlier (table ms) =
    InKeys signer_keys ms
    (At ms (codes "name") (InName (λ name. list_any (is_called name) earlier))
    ∪ At ms (codes "head") (InFrame fields)
    ∪ At ms (codes "end") (InFrame fields))
InSigner fields earlier _ = Just kinds.WrongKind

-- ---- steps

-- the step that is named, seen from row i, if there is one
abbrev pub InJump : ℕ → Option ℕ → Kinds
InJump i None = Just kinds.NoSuchName
InJump i (Some row) = Where kinds.BackwardJump (row ≤ i)

abbrev pub InTarget : List Data → ℕ → Data → Kinds
InTarget rows i (string text) = λ k. (is_word text ≡ false) × InJump i (position (is_called text) rows) k
InTarget rows i _ = Just kinds.WrongKind

abbrev pub InPattern : Data → Kinds
InPattern (string text) = Where kinds.BadPattern (pattern_in text ≡ None)
InPattern _ = Just kinds.WrongKind

abbrev pub InBranch : List Data → ℕ → Data → Kinds
InBranch rows i (table ms) =
    InKeys branch_keys ms (At ms (codes "on") InPattern ∪ At ms (codes "to") (InTarget rows i))
InBranch rows i _ = Just kinds.WrongKind

abbrev pub InBranches : List Data → ℕ → Data → Kinds
InBranches rows i d = InArray (λ ds. InSome (InBranch rows i) ds ∪ Over MAX_BRANCHES (length ds)) d

abbrev pub InSignature : List Signer → Data → Kinds
InSignature signers (string name) = Where kinds.NoSuchName (place_of_signer signers name ≡ None)
InSignature signers _ = Just kinds.WrongKind

abbrev pub InSignatures : List Signer → Data → Kinds
InSignatures signers d = InArray (λ ds. InSome (InSignature signers) ds ∪ Over MAX_SIGNATURES (length ds)) d

abbrev pub InSegments : List NamedField → Data → Kinds
InSegments fields d =
    InArray (λ ds. Empty ds ∪ InSome (InSegment fields) ds ∪ Over MAX_SEGMENTS (length ds)) d

-- a step is sealed only where the script has a seal
abbrev pub InSealed : Bool → Data → Kinds
InSealed has_seal (boolean sealed) = Where kinds.Missing ((sealed && not has_seal) ≡ true)
InSealed has_seal _ = Just kinds.WrongKind

abbrev pub InStepKeys : Surroundings → ℕ → Members → Kinds
InStepKeys around i ms =
    At ms (codes "name") (InName (is_taken_step around.rows i))
    ∪ At ms (codes "segments") (InSegments around.fields)
    ∪ AtOptional ms (codes "sealed") (InSealed (is_some around.seal))
    ∪ AtOptional ms (codes "signers") (InSignatures around.signers)
    ∪ AtOptional ms (codes "repeat") (InInteger 1 MAX_REPEAT)
    ∪ AtOptional ms (codes "branches") (InBranches around.rows i)
    ∪ AtOptional ms (codes "default") (InTarget around.rows i)

-- the segments that have a value
abbrev pub segments_read : List NamedField → Option Data → List Template
segments_read fields (Some (array ds)) = values_of (segment_in fields) (item_list ds)
segments_read fields _ = []

-- one of these has too many items
abbrev pub TooLong : Surroundings → Members → Kinds
TooLong around ms =
    Where kinds.Limit
    (has_large_segment around.figures (segments_read around.fields (get_member (codes "segments") ms)) ≡ true)

-- all keys have values, and the step of these is too heavy
abbrev pub TooHeavy : Surroundings → ℕ → Members → Kinds
TooHeavy around i ms = Behind (table_step around i ms) (λ step. Over MAX_WEIGHT (step_weight around step))

-- the step in row i
abbrev pub InStep : Surroundings → ℕ → Data → Kinds
InStep around i (table ms) =
    InKeys step_keys ms (InStepKeys around i ms) ∪ (TooLong around ms ∪ TooHeavy around i ms)
InStep around i _ = Just kinds.WrongKind

-- ---- the top

abbrev pub InRows : ℕ → Data → Kinds
InRows most d = InArray (λ ds. Over most (length ds)) d

abbrev pub InStepRows : Data → Kinds
InStepRows d = InArray (λ ds. Empty ds ∪ Over MAX_STEPS (length ds)) d

abbrev pub InTop : Members → Kinds
InTop ms =
    InKeys top_keys ms
    (AtOptional ms (codes "field") (InRows MAX_FIELDS)
    ∪ AtOptional ms (codes "signer") (InRows MAX_SIGNERS)
    ∪ At ms (codes "step") InStepRows)

-- ---- the places of a text

-- in the row of this number, from 1 on; rows count from 0
pub record InRow (rows : List Data) (faults : ℕ → Data → Kinds) (number : ℕ) (kind : FaultKind) : Type 0 where
  pub row : ℕ
  pub numbered : number ≡ row + 1
  pub entry : Data
  pub is_there : slice_get rows row ≡ Some entry
  pub stands : faults row entry kind

-- the text's table has a top without a fault: so there are rows
pub record HasTop (text : List ℕ) (top : Top) : Type 0 where
  pub members : Members
  pub toml : document text ≡ Some members
  pub is_top : top_in members ≡ Ok top

-- no row of a field has a fault either: so there are fields
pub record HasFields (text : List ℕ) (top : Top) (fields : List NamedField) : Type 0 where
  pub rows : HasTop text top
  pub denoted : DenoteFields top.fields fields

-- nor a signer or the seal: so there is all that a step rests on
pub record HasFrames (text : List ℕ) (around : Surroundings) : Type 0 where
  pub top : Top
  pub fields : List NamedField
  pub signers : List Signer
  pub seal : Option (List (List TemplateItem))
  pub rows : HasFields text top fields
  pub signers_are : signers_from fields top.signers ≡ Ok signers
  pub seal_is : seal_from fields top.seal ≡ Ok seal
  pub are : around ≡ surroundings top.steps fields signers seal

-- a longer text isn't read
abbrev pub InWhole : List ℕ → Kinds
InWhole text =
    Where kinds.Limit (MAX_TEXT < length text)
    ∪ Where kinds.NotToml ((length text ≤ MAX_TEXT) × (document text ≡ None))
    ∪ (λ k. (ms : Members) × (document text ≡ Some ms) × InTop ms k)

-- a fault of the kind is in the place
abbrev pub Stands : List ℕ → Place → Kinds
Stands text places.Top = InWhole text
Stands text (places.Field n) =
    λ k. (top : Top) × HasTop text top × InRow top.fields (λ i. InField (take i top.fields)) n k
Stands text (places.Signer n) =
    λ k. (top : Top) × (fields : List NamedField) × HasFields text top fields
    × InRow top.signers (λ i. InSigner fields (take i top.signers)) n k
Stands text places.Seal =
    λ k. (top : Top) × (fields : List NamedField) × HasFields text top fields
    × ((d : Data) × (top.seal ≡ Some d) × InFrame fields d k)
Stands text (places.Step n) =
    λ k. (around : Surroundings) × HasFrames text around × InRow around.rows (InStep around) n k

-- ---- the laws

-- a fault of the kind is there, and none of a kind before it in the order
pub record IsFirstKind (faults : Kinds) (kind : FaultKind) : Type 0 where
  pub stands : faults kind
  pub first : (other : FaultKind) → rank other < rank kind → faults other → ⊥

-- the order of the places: the top, the fields, the signers, the seal, the steps; and in these by the rows
abbrev pub part_of : Place → ℕ
part_of places.Top = 0
part_of (places.Field n) = 1
part_of (places.Signer n) = 2
part_of places.Seal = 3
part_of (places.Step n) = 4

abbrev pub row_of : Place → ℕ
row_of (places.Field n) = n
row_of (places.Signer n) = n
row_of (places.Step n) = n
row_of _ = 0

abbrev pub IsEarlier : Place → Place → Type 0
IsEarlier p q = (part_of p < part_of q) ⊎ ((part_of p ≡ part_of q) × (row_of p < row_of q))

-- the fault returned for a text is of the first kind that its place has
abbrev pub FirstKindTold : Type 0
FirstKindTold =
    (text : List ℕ) (f : ScriptFault) → IsFirstOf text f → IsFirstKind (Stands text f.place) f.kind

-- and the places before it have none
abbrev pub FirstPlaceTold : Type 0
FirstPlaceTold =
    (text : List ℕ) (f : ScriptFault) → IsFirstOf text f
    → (place : Place) (kind : FaultKind) → IsEarlier place f.place → Stands text place kind → ⊥

-- a text that denotes a script has none
abbrev pub NoneInScript : Type 0
NoneInScript =
    (text : List ℕ) (s : ScriptValue) → Denotes text s
    → (place : Place) (kind : FaultKind) → Stands text place kind → ⊥
