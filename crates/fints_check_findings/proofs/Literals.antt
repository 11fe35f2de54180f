-- Literals: what of element 2 is in every message of a step, and which HKTAN and which HKEND are.
use Rattle.std.proofs.Common.{ℕ, suc, ◌+◌, ◌≡◌, Bool, true, false, List, [], ◌∷◌, map, get_or, Some, refl, ap, ◌∙◌}
use Rattle.std.specs.Prelude.{◌&&◌, ◌||◌}
use Rattle.std.specs.List.{list_all, list_any, slice_get}
use Rattle.std.specs.Str.{bytes_eq}
use Rattle.fints_syntax_segments.specs.Segment.{item_value}
use Rattle.fints_syntax_segments.specs.Values.{values_at}
use Rattle.fints_script_rows.specs.declared.fields.NamedField.{NamedField}
use Rattle.fints_rules.specs.Facts.{has_tan_process as segment_process, ends_dialogue as segment_ends}
use Rattle.fints_rules_permissions.specs.Kinds.{is_tan_order}
use Rattle.fints_rules_permissions.specs.declared.orders.OrderRow.{OrderRow}
use Rattle.fints_script.specs.Plans.{IsClosedTemplate, element_two, is_literal}
use Rattle.fints_script_templates.specs.declared.template.Template.{Template}
use Rattle.fints_script_templates.specs.declared.template.TemplateItem.{TemplateItem}
use Rattle.fints_script_templates.specs.declared.template.TemplateItem.TheVariants.{Literal, Dialog, Field}
use Rattle.fints_wire.specs.Filling.{FillingValue, element_at, filled_element, filled_segment, filled_segments}
use Rattle.fints_wire.specs.Laws.{ElementsAreFilled}
use Rattle.fints_check_findings.specs.Elements.{has_process, literal_value, literals}
use Rattle.fints_check_findings.specs.Kinds.{is_end}

-- ---- literals

first_is : (es : List (List TemplateItem)) → get_or es 0 [] ≡ elim es [ [] ↦ [] | e ∷ more ↦ e ]
first_is [] = refl
first_is (e ∷ es) = refl

pub two_is : (t : Template) → element_at t 2 ≡ element_two t
two_is t = first_is t.elements

literal_values : (F : FillingValue) (items : List TemplateItem) → list_all is_literal items ≡ true
    → map item_value (filled_element F items) ≡ map literal_value items
literal_values F [] h = refl
literal_values F (Literal x ∷ items) h = ap (λ (vs : List (List ℕ)). item_value x ∷ vs) (literal_values F items h)
literal_values F (Dialog ∷ items) h = absurd cc
literal_values F (Field f ∷ items) h = absurd cc

pub literal_two : ElementsAreFilled → (F : FillingValue) (n : ℕ) (t : Template)
    → list_all is_literal (element_two t) ≡ true → values_at (filled_segment F n t) 2 ≡ literals t
literal_two filled F n t h =
    filled F n 2 t
    ∙ (ap (λ (items : List TemplateItem). map item_value (filled_element F items)) (two_is t)
    ∙ literal_values F (element_two t) h)

-- ---- processes

process_case : (a b c : Bool) → (a ≡ true → b ≡ c) → (a && b) ≡ (a && c)
process_case true b c h = h refl
process_case false b c h = refl

-- the literal process of an HKTAN is in its segment
process_is : ElementsAreFilled
    → (process : List ℕ) (F : FillingValue) (n : ℕ) (t : Template) (fields : List NamedField)
    (orders : List OrderRow)
    → IsClosedTemplate fields orders t
    → segment_process process (filled_segment F n t) ≡ has_process process t
process_is filled process F n t fields orders closed =
    process_case (is_tan_order t.kind) (bytes_eq (get_or (values_at (filled_segment F n t) 2) 0 []) process) (bytes_eq (get_or (literals t) 0 []) process)
    (λ tan. ap (λ (vs : List (List ℕ)). bytes_eq (get_or vs 0 []) process) (literal_two filled F n t (closed.process tan)))

pub processes_are : ElementsAreFilled
    → (process : List ℕ) (F : FillingValue) (fields : List NamedField) (orders : List OrderRow) (n : ℕ)
    (ts : List Template)
    → ((i : ℕ) (t : Template) → slice_get ts i ≡ Some t → IsClosedTemplate fields orders t)
    → list_any (segment_process process) (filled_segments F n ts) ≡ list_any (has_process process) ts
processes_are filled process F fields orders n [] closed = refl
processes_are filled process F fields orders n (t ∷ ts) closed =
    ap (λ (b : Bool). b || list_any (segment_process process) (filled_segments F (n + 1) ts)) (process_is filled process F n t fields orders (closed 0 t refl))
    ∙ ap (λ (b : Bool). has_process process t || b) (processes_are filled process F fields orders (n + 1) ts (λ i u at. closed (suc i) u at))

pub ends_are : (F : FillingValue) (n : ℕ) (ts : List Template)
    → list_any segment_ends (filled_segments F n ts) ≡ list_any is_end ts
ends_are F n [] = refl
ends_are F n (t ∷ ts) = ap (λ (b : Bool). is_end t || b) (ends_are F (n + 1) ts)
