-- What the message of a step can break by what it holds. What only private contracts and proofs use comes last, under a heading.
use Rattle.std.specs.Prelude.{ℕ, List}
use Rattle.fints_script_cases.specs.declared.values.NamedValue.{NamedValue}
use Rattle.fints_rules.specs.Breaks.{BreaksByContent}
use Rattle.fints_rules_permissions.specs.Permits.{Granted}
use Rattle.fints_rules.specs.declared.rule.Rule.{Rule}
use Rattle.fints_script.specs.Plans.{Admits}
use Rattle.fints_script.specs.Scripts.{ScriptValue}
use Rattle.fints_script.specs.Steps.{StepValue}
use Rattle.fints_wire.specs.Views.{message_view}

-- what the step's message holds, for any admitted values and at any number, breaks the rule nowhere
abbrev pub NeverBreaks : Granted → ScriptValue → StepValue → Rule → Type 0
NeverBreaks granted script step r =
    (number : ℕ) (values : List NamedValue) (place : ℕ) → Admits script.fields values
    → BreaksByContent granted (message_view script step number values) r place → ⊥

-- it breaks no rule
abbrev pub IsCleanStep : Granted → ScriptValue → StepValue → Type 0
IsCleanStep granted script step = (r : Rule) → NeverBreaks granted script step r

-- ---- of private contracts and proofs only

-- for some admitted values what the step's message holds breaks the rule at the place, at every number
pub record CanBreak (granted : Granted) (script : ScriptValue) (step : StepValue) (r : Rule) (place : ℕ)
    : Type 0 where
  pub values : List NamedValue
  pub admitted : Admits script.fields values
  pub breaks : (number : ℕ) → BreaksByContent granted (message_view script step number values) r place
