-- What holds of every script that was read, as a law says. Only laws, private contracts and models cite these words.
use Rattle.std.specs.Prelude.{◌≡◌, ◌≢◌, ℕ, ◌+◌, ◌<◌, ◌≤◌, ◌⊎◌, false, IsTrue, List, length, map, slice_get, Some, All, AllPairs, [], IfSome, IsSome}
use Rattle.fints_syntax.specs.Kind.{IsKindText, frame_kinds}
use Rattle.fints_script_templates.specs.Figures.{figures_of}
use Rattle.fints_script_rows.specs.Fields.{field_value}
use Rattle.fints_script_rows.specs.NamedFields.{is_account_at}
use Rattle.fints_script.specs.Numbered.{numbered}
use Rattle.fints_script.specs.Plans.{is_account_field}
use Rattle.fints_script.specs.Scripts.{ScriptValue, dialog_value, surroundings}
use Rattle.fints_script.specs.Steps.{StepValue, step_weight}
use Rattle.fints_script_templates.specs.Weights.{most_items}
use Rattle.fints_script_cases.specs.declared.answers.Branch.{Branch}
use Rattle.fints_script_cases.specs.declared.answers.Target.{Target}
use Rattle.fints_script_cases.specs.declared.answers.Target.TheVariants as targets
use Rattle.fints_script_rows.specs.declared.fields.NamedField.{NamedField}
use Rattle.fints_script_templates.specs.declared.template.TemplateItem.{TemplateItem}
use Rattle.fints_script_templates.specs.declared.template.TemplateItem.TheVariants.{Literal, Dialog, Field}
use Rattle.fints_script_templates.specs.declared.template.Template.{Template}
use Rattle.fints_script_rows.specs.declared.limits.TheConstants.{MAX_BRANCHES, MAX_FIELDS, MAX_REPEAT, MAX_SEGMENTS, MAX_SIGNATURES, MAX_SIGNERS, MAX_STEPS, MAX_TEMPLATE_ITEMS, MAX_WEIGHT}
use Rattle.fints_script_templates.specs.declared.template.Signer.{Signer}

-- a field of the script; the built-in one at 0 is used only as the dialogue id
abbrev pub IsInRange : List NamedField → TemplateItem → Type 0
IsInRange fields (Literal item) = Unit {0}
IsInRange fields Dialog = Unit {0}
IsInRange fields (Field f) = (1 ≤ f) × (f < length fields)

-- no field of listed accounts
abbrev pub IsSingle : List NamedField → TemplateItem → Type 0
IsSingle fields (Literal item) = Unit {0}
IsSingle fields Dialog = Unit {0}
IsSingle fields (Field f) = is_account_at (slice_get fields f) ≡ false

-- an element of a signer or of the seal has an item, and no field of listed accounts
pub record IsFrameElement (fields : List NamedField) (items : List TemplateItem) : Type 0 where
  pub some : 0 < length items
  pub within : All (IsInRange fields) items
  pub single : All (IsSingle fields) items

-- an element of a step's segment has an item; a field of listed accounts is its only item
pub record IsBodyElement (fields : List NamedField) (items : List TemplateItem) : Type 0 where
  pub some : 0 < length items
  pub within : All (IsInRange fields) items
  pub alone : IsTrue (is_account_field fields items) ⊎ All (IsSingle fields) items

abbrev pub HasFewItems : List NamedField → List (List TemplateItem) → Type 0
HasFewItems fields elements = most_items (map figures_of fields) elements ≤ MAX_TEMPLATE_ITEMS

-- the elements of a signer's segment, or of the seal
pub record IsSoundFrame (fields : List NamedField) (elements : List (List TemplateItem)) : Type 0 where
  pub each : All (IsFrameElement fields) elements
  pub few : HasFewItems fields elements

pub record IsSoundSigner (fields : List NamedField) (signer : Signer) : Type 0 where
  pub head : IsSoundFrame fields signer.head
  pub end : IsSoundFrame fields signer.end

-- a segment of a step
pub record IsSoundTemplate (fields : List NamedField) (t : Template) : Type 0 where
  pub kind : IsKindText t.kind
  pub no_frame : All (λ frame. frame ≡ t.kind → ⊥) frame_kinds
  pub least : 1 ≤ t.version
  pub most : t.version ≤ 999
  pub each : All (IsBodyElement fields) t.elements
  pub few : HasFewItems fields t.elements

-- a target from step n of a script of `count` steps: a later step that exists, the same step, or the end
abbrev pub IsOnward : ℕ → ℕ → Target → Type 0
IsOnward count n (targets.Step to) = (n < to) × (to ≤ count)
IsOnward count n targets.Again = Unit {0}
IsOnward count n targets.Stop = Unit {0}

-- where the branches and the default of step n lead
pub record LeadsOnward (count n : ℕ) (step : StepValue) : Type 0 where
  pub branches : All (λ (branch : Branch). IsOnward count n branch.to) step.branches
  pub otherwise : IsOnward count n step.otherwise

-- a step of the script, whose weight depends on no other row
pub record IsSoundStep (s : ScriptValue) (step : StepValue) : Type 0 where
  pub signers : All (λ (place : ℕ). place < length s.signers) step.signers
  pub few_signers : length step.signers ≤ MAX_SIGNATURES
  pub some_templates : 1 ≤ length step.templates
  pub few_templates : length step.templates ≤ MAX_SEGMENTS
  pub few_branches : length step.branches ≤ MAX_BRANCHES
  pub once : 1 ≤ step.repeat
  pub often : step.repeat ≤ MAX_REPEAT
  pub templates : All (IsSoundTemplate s.fields) step.templates
  pub seal : IsTrue step.sealed → IsSome s.seal
  pub light : step_weight (surroundings [] s.fields s.signers s.seal) step ≤ MAX_WEIGHT

-- the first field is the built-in one
abbrev pub HasDialog : List NamedField → Type 0
HasDialog fields = IfSome (slice_get fields 0) (λ field. field_value field ≡ dialog_value)

-- no two fields, and no two steps, have the same name
abbrev pub FieldsAreApart : List NamedField → Type 0
FieldsAreApart fields = AllPairs (λ (f g : NamedField). f.name ≢ g.name) fields

abbrev pub StepsAreApart : List StepValue → Type 0
StepsAreApart steps = AllPairs (λ (a b : StepValue). a.name ≢ b.name) steps

pub record IsSound (s : ScriptValue) : Type 0 where
  pub some_fields : 1 ≤ length s.fields
  pub few_fields : length s.fields ≤ 1 + MAX_FIELDS
  pub dialog : HasDialog s.fields
  pub fields_apart : FieldsAreApart s.fields
  pub few_signers : length s.signers ≤ MAX_SIGNERS
  pub signers : All (IsSoundSigner s.fields) s.signers
  pub seal : IfSome s.seal (IsSoundFrame s.fields)
  pub some_steps : 1 ≤ length s.steps
  pub few_steps : length s.steps ≤ MAX_STEPS
  pub steps_apart : StepsAreApart s.steps
  pub steps : All (IsSoundStep s) s.steps
  pub onward : (n : ℕ) (step : StepValue) → numbered s.steps n ≡ Some step
      → LeadsOnward (length s.steps) n step
