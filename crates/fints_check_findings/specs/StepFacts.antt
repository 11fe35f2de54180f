-- The facts of a step's message that follow from the step, and the rules over them. Only private contracts use these words.
use Rattle.std.specs.Prelude.{codes, ◌≡◌, ◌⊎◌, ◌↔◌, ℕ, ◌+◌, Bool, true, false, List, [], length, slice_get, Option, None, Some, Any, IsTrue}
use Rattle.std.specs.List.{list_any}
use Rattle.std.specs.Set.{distinct_count}
use Rattle.std.specs.Str.{bytes_eq}
use Rattle.fints_script_cases.specs.declared.values.NamedValue.{NamedValue}
use Rattle.fints_script_rows.specs.declared.fields.NamedField.{NamedField}
use Rattle.fints_rules.specs.Breaks.{BreaksByContent}
use Rattle.fints_rules_permissions.specs.Permits.{Granted}
use Rattle.fints_rules.specs.Rules.{MessageBreaks, SegmentBreaks}
use Rattle.fints_rules.specs.declared.facts.MessageFacts.{MessageFacts}
use Rattle.fints_rules.specs.declared.rule.Rule.{Rule}
use Rattle.fints_script.specs.Numbered.{numbered}
use Rattle.fints_script.specs.Plans.{Admits, IsClosedTemplate}
use Rattle.fints_script.specs.Scripts.{ScriptValue}
use Rattle.fints_script.specs.Sound.{IsSound, IsSoundStep}
use Rattle.fints_script.specs.Steps.{StepValue}
use Rattle.fints_script_templates.specs.declared.template.Template.{Template}
use Rattle.fints_wire.specs.Views.{message_view}
use Rattle.fints_check_findings.specs.Breakable.{CanBreak}
use Rattle.fints_check_findings.specs.Cases.{AsksNoField, HaveFirstAccount}
use Rattle.fints_check_findings.specs.Choosing.{BreaksWith, IsChoice, IsChoiceWith, TemplateBreaksWith}
use Rattle.fints_check_findings.specs.Elements.{accounts_asked, has_process, literals, template_facts, wants_tan}
use Rattle.fints_check_findings.specs.Kinds.{AreCounts, demanding_count, is_end, is_tan_segment, template_count, template_kinds}
use Rattle.fints_check_findings.specs.Tans.{TanUnder}
use Rattle.fints_check_findings.specs.declared.choosing.SetAccount.{SetAccount}
use Rattle.fints_check_findings.specs.declared.step_facts.StepFacts.{StepFacts}

-- ---- facts

-- those of the whole message; a TAN is there where some choice fills it, or where no choice leaves it empty
pub record AreMessageFacts (granted : Granted) (script : ScriptValue) (step : StepValue) (most : Bool)
    (f : MessageFacts) : Type 0 where
  pub protocol : f.protocol ≡ Some 300
  pub kinds : f.kinds ≡ distinct_count bytes_eq (template_kinds step.templates)
  pub signatures : f.signatures ≡ length step.signers
  pub submits : f.submits ≡ list_any (has_process (codes "4")) step.templates
  pub sends : f.sends ≡ list_any (has_process (codes "2")) step.templates
  pub ends : f.ends ≡ list_any is_end step.templates
  pub has_tan : IsTrue f.has_tan ↔ TanUnder most script.fields script.signers step.signers
  pub has_tan_order : f.has_tan_order ≡ list_any is_tan_segment step.templates
  pub demanding : f.demanding ≡ demanding_count granted.rows.pins step.templates

pub record AreStepFacts (granted : Granted) (script : ScriptValue) (step : StepValue) (f : StepFacts)
    : Type 0 where
  pub least : AreMessageFacts granted script step false f.least
  pub most : AreMessageFacts granted script step true f.most
  pub counts : AreCounts step.templates f.counts

-- those of the message of step n, with a TAN where no choice leaves it empty
abbrev pub AreFactsAt : Granted → ScriptValue → ℕ → MessageFacts → Type 0
AreFactsAt granted script n f =
    (step : StepValue) → numbered script.steps n ≡ Some step → AreMessageFacts granted script step false f

-- those of all steps, in order
pub record AreFactsOf (granted : Granted) (script : ScriptValue) (facts : List MessageFacts) : Type 0 where
  pub long : length facts ≡ length script.steps
  pub each : (n : ℕ) (f : MessageFacts) → numbered facts n ≡ Some f → AreFactsAt granted script n f

-- those that a rule is asked of
abbrev pub message_for : StepFacts → Bool → MessageFacts
message_for f true = f.most
message_for f false = f.least

-- ---- rules

-- the template's segment breaks the rule, with some account for which the rule is asked, or, where it is asked for none, with its literals
abbrev pub TemplateBreaks : Granted → List NamedField → MessageFacts → Rule → Template → ℕ → Type 0
TemplateBreaks granted fields f r t count =
    Any (λ account. SegmentBreaks granted f r (template_facts t count account)) (accounts_asked fields r t)
    ⊎ ((accounts_asked fields r t ≡ []) × SegmentBreaks granted f r (template_facts t count (literals t)))

-- if the template's segment breaks the rule, it does with this account set, or, where none is, with its literals
abbrev pub IsTemplateChoice : Granted → List NamedField → MessageFacts → Rule → Template → ℕ
    → Option SetAccount → Type 0
IsTemplateChoice granted fields f r t count choice =
    TemplateBreaks granted fields f r t count → TemplateBreaksWith granted fields f r t count choice

-- the segment of this number, after HNHBK and the signers' HNSHK, breaks it
pub record TemplateBreaksAt (granted : Granted) (fields : List NamedField) (step : StepValue)
    (f : MessageFacts) (r : Rule) (number : ℕ) : Type 0 where
  pub i : ℕ
  pub template : Template
  pub there : slice_get step.templates i ≡ Some template
  pub number_is : number ≡ 2 + length step.signers + i
  pub breaks : TemplateBreaks granted fields f r template (template_count template.kind step.templates)

abbrev pub StepBreaks : Granted → List NamedField → StepValue → MessageFacts → Rule → ℕ → Type 0
StepBreaks granted fields step f r place =
    ((place ≡ 0) × MessageBreaks granted f r) ⊎ TemplateBreaksAt granted fields step f r place

-- if the step's facts break the rule at the place, they do with this account set, or with none
abbrev pub IsStepChoice : Granted → List NamedField → StepValue → MessageFacts → Rule → ℕ → Option SetAccount
    → Type 0
IsStepChoice granted fields step f r place choice =
    StepBreaks granted fields step f r place → BreaksWith granted fields step f r place choice

-- ---- the law that joins the step's facts and its messages

-- where the facts break the rule some choice makes the message break it at every number, in particular the
-- one that sets the first account with which they do, where one is asked for; and what a choice at some number does the facts do
pub record Decides (granted : Granted) (script : ScriptValue) (step : StepValue) (r : Rule) (f : MessageFacts)
    : Type 0 where
  pub some : (place : ℕ) → StepBreaks granted script.fields step f r place
      → CanBreak granted script step r place
  pub chosen : (place : ℕ) (choice : Option SetAccount) (values : List NamedValue)
      → BreaksWith granted script.fields step f r place choice
      → IsChoice (wants_tan r) script.fields choice values
      → Admits script.fields values
      × ((number : ℕ) → BreaksByContent granted (message_view script step number values) r place)
  pub set : (place : ℕ) (s : SetAccount) (values : List NamedValue)
      → BreaksWith granted script.fields step f r place (Some s) → IsChoiceWith script.fields s values
      → HaveFirstAccount granted script step r place values
  pub unset : (place : ℕ) → BreaksWith granted script.fields step f r place None
      → AsksNoField script step r place
  pub each : (number : ℕ) (values : List NamedValue) (place : ℕ) → Admits script.fields values
      → BreaksByContent granted (message_view script step number values) r place
      → StepBreaks granted script.fields step f r place

abbrev pub TemplatesDecide : Type 0
TemplatesDecide =
    (script : ScriptValue) (granted : Granted) (step : StepValue) (r : Rule) (f : MessageFacts)
    → IsSound script → IsSoundStep script step
    → ((i : ℕ) (t : Template) → slice_get step.templates i ≡ Some t
    → IsClosedTemplate script.fields granted.orders t)
    → AreMessageFacts granted script step (wants_tan r) f → Decides granted script step r f
