-- A script with an order table: which accounts and processes are open, and which values are admitted. Words
-- only for private contracts and proofs come last, under a heading.
use Rattle.std.specs.Prelude.{◌≡◌, ◌⊎◌, ℕ, ◌+◌, Bool, true, false, ◌&&◌, ◌||◌, not, if◌then◌else◌, codes, List, [], ◌∷◌, length, slice_get, zip, All, Option, Some, None, option_map}
use Rattle.std.specs.List.{enumerate_from, filter_map, flat_map, list_all}
use Rattle.std.specs.Str.{bytes_eq}
use Rattle.fints_rules_permissions.specs.Orders.{form_of}
use Rattle.fints_rules_permissions.specs.declared.orders.OrderRow.{OrderRow}
use Rattle.fints_rules_permissions.specs.declared.orders.AccountForm.{AccountForm}
use Rattle.fints_rules_permissions.specs.declared.orders.AccountForm.TheVariants as forms
use Rattle.fints_script_fields.specs.Fields.{field_domain}
use Rattle.fints_script_rows.specs.NamedFields.{is_account_at}
use Rattle.fints_script.specs.Scripts.{ScriptValue}
use Rattle.fints_script.specs.Steps.{StepValue}
use Rattle.fints_script_rows.specs.declared.fields.NamedField.{NamedField}
use Rattle.fints_script.specs.declared.opens.OpenPart.{OpenPart}
use Rattle.fints_script.specs.declared.opens.OpenPart.TheVariants as opens
use Rattle.fints_script.specs.declared.opens.PlanFault.{PlanFault}
use Rattle.fints_script.specs.declared.opens.PlanFault.TheVariants as faults
use Rattle.fints_script_templates.specs.declared.template.TemplateItem.{TemplateItem}
use Rattle.fints_script_templates.specs.declared.template.TemplateItem.TheVariants as items
use Rattle.fints_script_templates.specs.declared.template.Template.{Template}
use Rattle.fints_script_cases.specs.declared.values.NamedValue.{NamedValue}

-- what a contract sees of a plan: the script and the rows of the order table
pub record PlanValue : Type 0 where
  pub script : ScriptValue
  pub orders : List OrderRow

-- ---- open accounts and processes

abbrev pub is_literal : TemplateItem → Bool
is_literal (items.Literal item) = true
is_literal _ = false

-- one field of listed accounts, and nothing else
abbrev pub is_account_field : List NamedField → List TemplateItem → Bool
is_account_field fields (items.Field f ∷ []) = is_account_at (slice_get fields f)
is_account_field fields _ = false

-- element 2 of a segment; an absent one is empty
abbrev pub element_two : Template → List TemplateItem
element_two t = elim t.elements [ [] ↦ [] | e ∷ es ↦ e ]

-- the order names an account
abbrev pub names_account : Option AccountForm → Bool
names_account (Some forms.National) = true
names_account (Some forms.International) = true
names_account _ = false

-- its account is neither all literals nor one field of listed accounts
abbrev pub is_open_account : List NamedField → List OrderRow → Template → Bool
is_open_account fields orders t =
    names_account (form_of orders t.kind t.version) && not
    (list_all is_literal (element_two t) || is_account_field fields (element_two t))

-- its TAN process isn't all literals
abbrev pub is_open_process : Template → Bool
is_open_process t = bytes_eq t.kind (codes "HKTAN") && not (list_all is_literal (element_two t))

-- what a segment leaves open
abbrev pub open_of : List NamedField → List OrderRow → Template → Option OpenPart
open_of fields orders t =
    if is_open_account fields orders t then Some opens.Account
    else if is_open_process t then Some opens.Process else None

-- the fault of what is left open; steps count from 1, and segments as they are numbered in the message
abbrev pub open_fault : OpenPart → ℕ → ℕ → PlanFault
open_fault opens.Account step segment = faults.OpenAccount step segment
open_fault opens.Process step segment = faults.OpenProcess step segment

-- the faults of these segments of step n, in order; the first has this number in the message
abbrev pub faults_in_segments : List NamedField → List OrderRow → ℕ → ℕ → List Template → List PlanFault
faults_in_segments fields orders n first templates =
    filter_map (λ (p : ℕ × Template). option_map (λ left. open_fault left n p.0) (open_of fields orders p.1))
    (enumerate_from first templates)

-- the faults of step n: before its segments come HNHBK and the signers' HNSHK
abbrev pub faults_in_step : List NamedField → List OrderRow → ℕ → StepValue → List PlanFault
faults_in_step fields orders n step =
    faults_in_segments fields orders n (length step.signers + 2) step.templates

-- the faults of the steps, in order
abbrev pub faults_in_steps : List NamedField → List OrderRow → List StepValue → List PlanFault
faults_in_steps fields orders steps =
    flat_map (λ (p : ℕ × StepValue). faults_in_step fields orders p.0 p.1) (enumerate_from 1 steps)

-- the first of a script's faults
abbrev pub IsPlanFault : ScriptValue → List OrderRow → PlanFault → Type 0
IsPlanFault s orders fault = slice_get (faults_in_steps s.fields orders s.steps) 0 ≡ Some fault

-- the script has none: no segment of it leaves anything open
abbrev pub IsClosed : ScriptValue → List OrderRow → Type 0
IsClosed s orders = faults_in_steps s.fields orders s.steps ≡ []

-- ---- values

-- the value has the field's name, and is one of its domain
abbrev pub IsChosen : NamedField → NamedValue → Type 0
IsChosen field value = (value.name ≡ field.name) × field_domain field.class value.value

-- exactly the fields, in order, each with a value of its domain
abbrev pub Admits : List NamedField → List NamedValue → Type 0
Admits fields values =
    (length values ≡ length fields)
    × All (λ (p : NamedField × NamedValue). IsChosen p.0 p.1) (zip fields values)

-- ---- of private contracts and proofs only

-- element 2 of an HKTAN is all literals; that of an order that names an account is all literals, or one field of listed accounts by itself
pub record IsClosedTemplate (fields : List NamedField) (orders : List OrderRow) (t : Template) : Type 0 where
  pub process : bytes_eq t.kind (codes "HKTAN") ≡ true → list_all is_literal (element_two t) ≡ true
  pub account : names_account (form_of orders t.kind t.version) ≡ true
      → (list_all is_literal (element_two t) ≡ true) ⊎ (is_account_field fields (element_two t) ≡ true)
