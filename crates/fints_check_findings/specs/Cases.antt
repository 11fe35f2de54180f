-- Which values the case of a finding has.
use Rattle.std.specs.Prelude.{ℕ, ◌≡◌, ◌≢◌, ◌<◌, ◌+◌, ◌⊎◌, List, [], ◌∷◌, length, Some, slice_get}
use Rattle.fints_script_fields.specs.Fields.{field_accounts}
use Rattle.fints_script_fields.specs.Listed.{account_text}
use Rattle.fints_script_cases.specs.declared.values.NamedValue.{NamedValue}
use Rattle.fints_script_rows.specs.declared.fields.NamedField.{NamedField}
use Rattle.fints_rules.specs.Breaks.{BreaksByContent}
use Rattle.fints_rules_permissions.specs.Permits.{Granted}
use Rattle.fints_rules.specs.declared.rule.Rule.{Rule}
use Rattle.fints_rules.specs.declared.rule.Rule.TheVariants.{Account, Procedure, Signatures, Size}
use Rattle.fints_script.specs.Numbered.{numbered}
use Rattle.fints_script.specs.Plans.{element_two}
use Rattle.fints_script.specs.Scripts.{ScriptValue}
use Rattle.fints_script.specs.Steps.{StepValue}
use Rattle.fints_script_templates.specs.declared.template.Template.{Template}
use Rattle.fints_script_templates.specs.declared.template.TemplateItem.TheVariants.{Field}
use Rattle.fints_wire.specs.Choices.{longest_choice, shortest_choice, with_value}
use Rattle.fints_wire.specs.Views.{message_view}
use Rattle.fints_check_findings.specs.declared.finding.Finding.{Finding}

-- the shortest values, but for the field at this place, which has this account
abbrev pub with_account : List NamedField → ℕ → NamedField → List (List ℕ) → List NamedValue
with_account fields place field account =
    with_value (shortest_choice fields) place field (account_text account)

-- P8 and P9 are asked of the accounts of a field: element 2 of the order at this segment is the field by itself
pub record AsksField (script : ScriptValue) (step : StepValue) (r : Rule) (segment place : ℕ)
    (field : NamedField)
    : Type 0 where
  pub asks : (r ≡ Signatures) ⊎ (r ≡ Account)
  pub i : ℕ
  pub template : Template
  pub at : slice_get step.templates i ≡ Some template
  pub number : segment ≡ 2 + length step.signers + i
  pub element : element_two template ≡ Field place ∷ []
  pub there : slice_get script.fields place ≡ Some field
  pub accounts : field_accounts field.class ≢ []

abbrev pub AsksNoField : ScriptValue → StepValue → Rule → ℕ → Type 0
AsksNoField script step r segment =
    (place : ℕ) (field : NamedField) → AsksField script step r segment place field → ⊥

-- the shortest values, but for that field, which has the first of its accounts with which the step's message
-- breaks the rule at the segment
pub record HaveFirstAccount (granted : Granted) (script : ScriptValue) (step : StepValue) (r : Rule)
    (segment : ℕ) (values : List NamedValue)
    : Type 0 where
  pub place : ℕ
  pub field : NamedField
  pub asked : AsksField script step r segment place field
  pub row : ℕ
  pub account : List (List ℕ)
  pub listed : slice_get (field_accounts field.class) row ≡ Some account
  pub values_are : values ≡ with_account script.fields place field account
  pub first : (earlier number : ℕ) (other : List (List ℕ)) → earlier < row
      → slice_get (field_accounts field.class) earlier ≡ Some other
      → BreaksByContent granted
      (message_view script step number (with_account script.fields place field other)) r
      segment → ⊥

-- the values are the shortest, and where accounts of a field are asked for, that field has the first that breaks the rule
abbrev pub AreShortestFor : Granted → ScriptValue → Finding → List NamedValue → Type 0
AreShortestFor granted script f values =
    (step : StepValue) → numbered script.steps f.step ≡ Some step
    → ((values ≡ shortest_choice script.fields) × AsksNoField script step f.rule f.segment)
    ⊎ HaveFirstAccount granted script step f.rule f.segment values

-- they are the longest for P3 and P12, and for any other rule the shortest
pub record AreChosenFor (granted : Granted) (script : ScriptValue) (f : Finding) (values : List NamedValue)
    : Type 0 where
  pub longest : (f.rule ≡ Size) ⊎ (f.rule ≡ Procedure) → values ≡ longest_choice script.fields
  pub shortest : (f.rule ≡ Size → ⊥) → (f.rule ≡ Procedure → ⊥) → AreShortestFor granted script f values
