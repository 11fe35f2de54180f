-- What a signer's row and the seal are, or the first kind of fault in them.
use Rattle.std.specs.Prelude.{codes, ℕ, nat_lt, false, if◌then◌else◌, List, [], ◌∷◌, length, Ok, Err}
use Rattle.std.specs.List.{list_any}
use Rattle.toml.specs.Data.{Data, table, Members}
use Rattle.fints_syntax_texts.specs.Document.{only_keys}
use Rattle.fints_syntax_texts.specs.Entries.{is_called}
use Rattle.fints_script_rows.specs.Parts.{Part, ◌>>=◌, ◌<*>◌, must}
use Rattle.fints_script_rows.specs.RowNames.{row_name}
use Rattle.fints_script_templates.specs.Elements.{elements_in}
use Rattle.fints_script_templates.specs.Weights.{total}
use Rattle.fints_script_rows.specs.declared.fault.FaultKind.TheVariants as kinds
use Rattle.fints_script_rows.specs.declared.fields.NamedField.{NamedField}
use Rattle.fints_script_templates.specs.declared.template.TemplateItem.{TemplateItem}
use Rattle.fints_script_rows.specs.declared.limits.TheConstants.{MAX_TEMPLATE_ITEMS}
use Rattle.fints_script_templates.specs.declared.template.Signer.{Signer}

-- elements of not too many items; each counts once, since no account field is there
abbrev pub few_items : List (List TemplateItem) → Part (List (List TemplateItem))
few_items elements =
    if nat_lt MAX_TEMPLATE_ITEMS (total length elements) then Err kinds.Limit else Ok elements

-- the elements of a signer's segment or of the seal, where no account field may be
abbrev pub frame_in : List NamedField → Data → Part (List (List TemplateItem))
frame_in fields d = elements_in fields false d >>= few_items

abbrev pub signer_keys : List (List ℕ)
signer_keys = codes "name" ∷ codes "head" ∷ codes "end" ∷ []

abbrev pub signer_value : List ℕ → List (List TemplateItem) → List (List TemplateItem) → Signer
signer_value name head end = record { name = name; head = head; end = end }

-- the signer that a table gives, key by key, or its first kind of fault
unfoldable pub table_signer : List NamedField → List Data → Members → Part Signer
table_signer fields earlier ms =
    if only_keys signer_keys ms then
    Ok signer_value
    <*> row_name (λ name. list_any (is_called name) earlier) ms
    <*> must ms (codes "head") (frame_in fields)
    <*> must ms (codes "end") (frame_in fields)
    else Err kinds.UnknownKey

-- a row of `signer` after earlier ones
abbrev pub signer_in : List NamedField → List Data → Data → Part Signer
signer_in fields earlier (table ms) = table_signer fields earlier ms
signer_in fields earlier _ = Err kinds.WrongKind
