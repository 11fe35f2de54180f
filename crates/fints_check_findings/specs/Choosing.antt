-- Which values a case has: the worst ones for a rule that a TAN breaks, and else the least ones, with at most
-- one account set. Only private contracts use these words.
use Rattle.std.specs.Prelude.{ℕ, ◌≡◌, ◌<◌, ◌⊎◌, ◌+◌, Bool, true, false, List, [], ◌∷◌, length, Option, Some, None, Any, MatchOption}
use Rattle.std.specs.List.{slice_get}
use Rattle.fints_script_fields.specs.Fields.{field_accounts, field_shortest}
use Rattle.fints_script_fields.specs.Listed.{account_text}
use Rattle.fints_script_cases.specs.declared.values.NamedValue.{NamedValue}
use Rattle.fints_script_rows.specs.declared.fields.NamedField.{NamedField}
use Rattle.fints_rules_permissions.specs.Permits.{Granted}
use Rattle.fints_rules.specs.Rules.{MessageBreaks, SegmentBreaks}
use Rattle.fints_rules.specs.declared.facts.MessageFacts.{MessageFacts}
use Rattle.fints_rules.specs.declared.rule.Rule.{Rule}
use Rattle.fints_script.specs.Plans.{element_two}
use Rattle.fints_script.specs.Steps.{StepValue}
use Rattle.fints_script_templates.specs.declared.template.Template.{Template}
use Rattle.fints_script_templates.specs.declared.template.TemplateItem.TheVariants.{Field}
use Rattle.fints_wire.specs.Choices.{longest_choice, shortest_choice, with_value}
use Rattle.fints_check_findings.specs.Elements.{accounts_asked, asks_account, literals, template_facts}
use Rattle.fints_check_findings.specs.Kinds.{template_count}
use Rattle.fints_check_findings.specs.declared.choosing.CaseValues.{CaseValues}
use Rattle.fints_check_findings.specs.declared.choosing.CaseValues.TheVariants.{Least, LeastWithAccount, Worst}
use Rattle.fints_check_findings.specs.declared.choosing.SetAccount.{SetAccount}

-- ---- values

-- the text of an account, and where there is none the field's shortest value
abbrev pub account_or : NamedField → Option (List (List ℕ)) → List ℕ
account_or field None = field_shortest field.class
account_or field (Some account) = account_text account

abbrev pub value_with : NamedField → Option ℕ → List ℕ
value_with field None = field_shortest field.class
value_with field (Some place) = account_or field (slice_get (field_accounts field.class) place)

-- the least values, with this account set
abbrev pub IsChoiceWith : List NamedField → SetAccount → List NamedValue → Type 0
IsChoiceWith fields s values =
    (field : NamedField) (account : List (List ℕ)) → slice_get fields s.field ≡ Some field
    → slice_get (field_accounts field.class) s.account ≡ Some account
    → values ≡ with_value (shortest_choice fields) s.field field (account_text account)

-- the longest values, or the shortest
abbrev pub extreme_choice : Bool → List NamedField → List NamedValue
extreme_choice true fields = longest_choice fields
extreme_choice false fields = shortest_choice fields

abbrev pub IsChoice : Bool → List NamedField → Option SetAccount → List NamedValue → Type 0
IsChoice most fields None values = values ≡ extreme_choice most fields
IsChoice most fields (Some s) values = IsChoiceWith fields s values

-- the values are of this sort
abbrev pub AreOfSort : List NamedField → CaseValues → List NamedValue → Type 0
AreOfSort fields Least values = values ≡ shortest_choice fields
AreOfSort fields (LeastWithAccount s) values = IsChoiceWith fields s values
AreOfSort fields Worst values = values ≡ longest_choice fields

abbrev pub chosen_sort : Bool → Option SetAccount → CaseValues
chosen_sort most (Some s) = LeastWithAccount s
chosen_sort true None = Worst
chosen_sort false None = Least

-- ---- rules

-- with the account at this place the template's segment breaks the rule, and with none before it
pub record HasBreaking (granted : Granted) (f : MessageFacts) (r : Rule) (t : Template) (count : ℕ)
    (accounts : List (List (List ℕ))) (place : ℕ) : Type 0 where
  pub account : List (List ℕ)
  pub listed : slice_get accounts place ≡ Some account
  pub breaks : SegmentBreaks granted f r (template_facts t count account)
  pub first : (k : ℕ) (earlier : List (List ℕ)) → k < place → slice_get accounts k ≡ Some earlier
      → SegmentBreaks granted f r (template_facts t count earlier) → ⊥

-- the account at this place is the first with which the template's segment breaks the rule; it is absent only where no account does
abbrev pub IsBreakingPlace : Granted → MessageFacts → Rule → Template → ℕ → List (List (List ℕ)) → Option ℕ
    → Type 0
IsBreakingPlace granted f r t count accounts place =
    MatchOption place
    (Any (λ account. SegmentBreaks granted f r (template_facts t count account)) accounts → ⊥)
    (HasBreaking granted f r t count accounts)

-- element 2 is the field that is set, and the account that it is set to is the first with which the template's segment breaks the rule
pub record IsSetFor (granted : Granted) (fields : List NamedField) (f : MessageFacts) (r : Rule)
    (t : Template) (count : ℕ) (s : SetAccount) : Type 0 where
  pub asks : asks_account r ≡ true
  pub items_are : element_two t ≡ Field s.field ∷ []
  pub field : NamedField
  pub there : slice_get fields s.field ≡ Some field
  pub breaking : HasBreaking granted f r t count (field_accounts field.class) s.account

-- the template's segment breaks the rule with this account set, or, where it is asked for none, with its literals
abbrev pub TemplateBreaksWith : Granted → List NamedField → MessageFacts → Rule → Template → ℕ
    → Option SetAccount → Type 0
TemplateBreaksWith granted fields f r t count None =
    (accounts_asked fields r t ≡ []) × SegmentBreaks granted f r (template_facts t count (literals t))
TemplateBreaksWith granted fields f r t count (Some s) = IsSetFor granted fields f r t count s

-- the segment of this number does
pub record BreaksWithAt (granted : Granted) (fields : List NamedField) (step : StepValue) (f : MessageFacts)
    (r : Rule) (number : ℕ) (choice : Option SetAccount) : Type 0 where
  pub i : ℕ
  pub template : Template
  pub there : slice_get step.templates i ≡ Some template
  pub number_is : number ≡ 2 + length step.signers + i
  pub breaks : TemplateBreaksWith granted fields f r template
      (template_count template.kind step.templates) choice

-- the step's facts break the rule at the place with this account set, or with none
abbrev pub BreaksWith : Granted → List NamedField → StepValue → MessageFacts → Rule → ℕ → Option SetAccount
    → Type 0
BreaksWith granted fields step f r place choice =
    ((place ≡ 0) × MessageBreaks granted f r × (choice ≡ None))
    ⊎ BreaksWithAt granted fields step f r place choice
