-- What a segment's table is: a template, or the first kind of fault in it.
use Rattle.std.specs.Prelude.{codes, ℕ, true, if◌then◌else◌, List, [], ◌∷◌, Ok, Err, ok_or}
use Rattle.toml.specs.Data.{Data, string, table, Members}
use Rattle.fints_syntax_segments.specs.Kind.{kind_from, is_frame_kind}
use Rattle.fints_syntax_texts.specs.Document.{only_keys}
use Rattle.fints_script_rows.specs.Parts.{Part, ◌<*>◌, integer_in, may, must}
use Rattle.fints_script_rows.specs.declared.fault.FaultKind.TheVariants as kinds
use Rattle.fints_script_rows.specs.declared.fields.NamedField.{NamedField}
use Rattle.fints_script_templates.specs.Elements.{elements_in}
use Rattle.fints_script_templates.specs.declared.template.Template.{Template}
use Rattle.fints_script_templates.specs.declared.template.TemplateItem.{TemplateItem}

-- an identifier, and none of the frame, which no step names
abbrev pub body_kind : List ℕ → Part (List ℕ)
body_kind text = if is_frame_kind text then Err kinds.WrongKind else ok_or (kind_from text) kinds.WrongKind

abbrev pub kind_in : Data → Part (List ℕ)
kind_in (string text) = body_kind text
kind_in _ = Err kinds.WrongKind

abbrev pub segment_keys : List (List ℕ)
segment_keys = codes "kind" ∷ codes "version" ∷ codes "elements" ∷ []

abbrev pub template_value : List ℕ → ℕ → List (List TemplateItem) → Template
template_value kind version elements = record { kind = kind; version = version; elements = elements }

-- the template that a table gives, key by key, or its first kind of fault; it may have account fields
unfoldable pub table_segment : List NamedField → Members → Part Template
table_segment fields ms =
    if only_keys segment_keys ms then
    Ok template_value
    <*> must ms (codes "kind") kind_in
    <*> must ms (codes "version") (integer_in 1 999)
    <*> may ms (codes "elements") [] (elements_in fields true)
    else Err kinds.UnknownKey

abbrev pub segment_in : List NamedField → Data → Part Template
segment_in fields (table ms) = table_segment fields ms
segment_in fields _ = Err kinds.WrongKind
