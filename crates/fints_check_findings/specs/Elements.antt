-- What element 2 of a template's segment may hold, and what the rules ask of it. Only private contracts and,
-- by Releases, the invariant of Report cite these words.
use Rattle.std.specs.Prelude.{ℕ, Bool, true, false, ◌&&◌, if◌then◌else◌, List, [], ◌∷◌, map, get_or, slice_get, Option, Some, None}
use Rattle.std.specs.Str.{bytes_eq}
use Rattle.fints_syntax_segments.specs.Segment.{item_value}
use Rattle.fints_script_fields.specs.Fields.{field_accounts}
use Rattle.fints_script_rows.specs.declared.fields.NamedField.{NamedField}
use Rattle.fints_rules_permissions.specs.Kinds.{is_tan_order}
use Rattle.fints_rules.specs.SegmentFacts.{SegmentFactsValue}
use Rattle.fints_rules.specs.declared.rule.Rule.{Rule}
use Rattle.fints_rules.specs.declared.rule.Rule.TheVariants as rule
use Rattle.fints_script.specs.Plans.{element_two}
use Rattle.fints_script_templates.specs.declared.template.Template.{Template}
use Rattle.fints_script_templates.specs.declared.template.TemplateItem.{TemplateItem}
use Rattle.fints_script_templates.specs.declared.template.TemplateItem.TheVariants.{Literal, Field}

-- ---- literals

-- a literal's value; what is no literal has none
abbrev pub literal_value : TemplateItem → List ℕ
literal_value (Literal item) = item_value item
literal_value _ = []

abbrev pub literals : Template → List (List ℕ)
literals t = map literal_value (element_two t)

-- an HKTAN of this process: 4 submits an order, 2 sends the TAN for it
abbrev pub has_process : List ℕ → Template → Bool
has_process process t = is_tan_order t.kind && bytes_eq (get_or (literals t) 0 []) process

-- ---- listed accounts

abbrev pub accounts_at : Option NamedField → List (List (List ℕ))
accounts_at None = []
accounts_at (Some field) = field_accounts field.class

-- the listed accounts of an element that is one field
abbrev pub listed_in : List NamedField → List TemplateItem → List (List (List ℕ))
listed_in fields (Field f ∷ []) = accounts_at (slice_get fields f)
listed_in fields _ = []

-- P8 and P9 ask which account an order names
abbrev pub asks_account : Rule → Bool
asks_account rule.Signatures = true
asks_account rule.Account = true
asks_account _ = false

-- P12 is broken where a TAN is; it is asked of values with the most TANs, and the others of those with the fewest
abbrev pub wants_tan : Rule → Bool
wants_tan rule.Procedure = true
wants_tan _ = false

-- the accounts for which the rule is asked
abbrev pub accounts_asked : List NamedField → Rule → Template → List (List (List ℕ))
accounts_asked fields r t = if asks_account r then listed_in fields (element_two t) else []

-- ---- facts

-- the first six; an absent one is empty
abbrev pub six_of : List (List ℕ) → List (List ℕ)
six_of xs =
    get_or xs 0 [] ∷ get_or xs 1 [] ∷ get_or xs 2 [] ∷ get_or xs 3 [] ∷ get_or xs 4 [] ∷ get_or xs 5 [] ∷ []

-- the facts of the template's segment with these items in element 2, where `count` segments have its kind
abbrev pub template_facts : Template → ℕ → List (List ℕ) → SegmentFactsValue
template_facts t count items =
    record { kind = t.kind; version = t.version; items = six_of items; count = count }
