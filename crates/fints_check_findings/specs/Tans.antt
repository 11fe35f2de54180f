-- Which signers have a TAN under every choice, and which under some. Only private contracts use these words.
use Rattle.std.specs.Prelude.{◌≡◌, ◌≢◌, ℕ, Bool, true, false, List, [], get_or, slice_get, Option, Some, None, Any}
use Rattle.fints_syntax_segments.specs.Segment.{item_value}
use Rattle.fints_script_fields.specs.Fields.{field_domain, field_longest, field_written}
use Rattle.fints_script_rows.specs.declared.fields.NamedField.{NamedField}
use Rattle.fints_script_templates.specs.declared.template.Signer.{Signer}
use Rattle.fints_script_templates.specs.declared.template.TemplateItem.{TemplateItem}
use Rattle.fints_script_templates.specs.declared.template.TemplateItem.TheVariants.{Literal, Dialog, Field}

abbrev pub AdmitsEmpty : Option NamedField → Type 0
AdmitsEmpty None = Unit {0}
AdmitsEmpty (Some field) = field_domain field.class []

-- some choice leaves the item empty: an absent one is empty, and the dialogue id never is
abbrev pub MayBeEmpty : List NamedField → Option TemplateItem → Type 0
MayBeEmpty fields None = Unit {0}
MayBeEmpty fields (Some (Literal item)) = item_value item ≡ []
MayBeEmpty fields (Some Dialog) = ⊥
MayBeEmpty fields (Some (Field f)) = AdmitsEmpty (slice_get fields f)

-- the TAN of the signer's HNSHA: item 2 of element 4
abbrev pub tan_item : Signer → Option TemplateItem
tan_item signer = slice_get (get_or signer.end 2 []) 1

abbrev pub AlwaysHasTan : List NamedField → Signer → Type 0
AlwaysHasTan fields signer = MayBeEmpty fields (tan_item signer) → ⊥

abbrev pub HasTanAt : List NamedField → Option Signer → Type 0
HasTanAt fields None = ⊥
HasTanAt fields (Some signer) = AlwaysHasTan fields signer

-- a signer of those at these places
abbrev pub SomeTan : List NamedField → List Signer → List ℕ → Type 0
SomeTan fields signers places = Any (λ place. HasTanAt fields (slice_get signers place)) places

-- the longest value is written as some bytes
abbrev pub AdmitsFilled : Option NamedField → Type 0
AdmitsFilled None = ⊥
AdmitsFilled (Some field) = field_written field.class (field_longest field.class) ≢ 0

-- some choice fills the item: an absent one is empty, and the dialogue id never is
abbrev pub MayBeFilled : List NamedField → Option TemplateItem → Type 0
MayBeFilled fields None = ⊥
MayBeFilled fields (Some (Literal item)) = item_value item ≢ []
MayBeFilled fields (Some Dialog) = Unit {0}
MayBeFilled fields (Some (Field f)) = AdmitsFilled (slice_get fields f)

abbrev pub MayHaveTanAt : List NamedField → Option Signer → Type 0
MayHaveTanAt fields None = ⊥
MayHaveTanAt fields (Some signer) = MayBeFilled fields (tan_item signer)

-- under some choice a signer of those at these places has one
abbrev pub MaybeTan : List NamedField → List Signer → List ℕ → Type 0
MaybeTan fields signers places = Any (λ place. MayHaveTanAt fields (slice_get signers place)) places

-- a TAN is there under some choice, or under every
abbrev pub TanUnder : Bool → List NamedField → List Signer → List ℕ → Type 0
TanUnder true fields signers places = MaybeTan fields signers places
TanUnder false fields signers places = SomeTan fields signers places
