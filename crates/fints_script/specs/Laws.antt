-- The laws of a script's text: what it denotes is determined; and of closed plans. Each is the contract of a public function.
use Rattle.std.specs.Prelude.{◌≡◌, ℕ, List, Some, slice_get}
use Rattle.fints_rules_permissions.specs.declared.orders.OrderRow.{OrderRow}
use Rattle.fints_script.specs.Numbered.{numbered}
use Rattle.fints_script.specs.Plans.{IsClosed, IsClosedTemplate}
use Rattle.fints_script.specs.Steps.{StepValue}
use Rattle.fints_script_templates.specs.declared.template.Template.{Template}
use Rattle.fints_script_rows.specs.declared.fault.ScriptFault.{ScriptFault}
use Rattle.fints_script.specs.Scripts.{Denotes, IsFirstOf, IsRead, ScriptValue}
use Rattle.fints_script.specs.Sound.{IsSound}

-- a text denotes one script at most
abbrev pub OneScript : Type 0
OneScript = (text : List ℕ) (s t : ScriptValue) → Denotes text s → Denotes text t → s ≡ t

-- a text with a fault denotes none; running out of memory isn't a fault of a text
abbrev pub NoScriptAtFault : Type 0
NoScriptAtFault = (text : List ℕ) (f : ScriptFault) (s : ScriptValue) → IsFirstOf text f → Denotes text s → ⊥

-- a text has one first fault at most: one kind at one place
abbrev pub OneTextFault : Type 0
OneTextFault = (text : List ℕ) (f g : ScriptFault) → IsFirstOf text f → IsFirstOf text g → f ≡ g

-- no segment of a closed plan leaves its account or its TAN process open
abbrev pub ClosedSegments : Type 0
ClosedSegments =
    (s : ScriptValue) (orders : List OrderRow) → IsClosed s orders
    → (n i : ℕ) (step : StepValue) (t : Template) → numbered s.steps n ≡ Some step
    → slice_get step.templates i ≡ Some t → IsClosedTemplate s.fields orders t

-- what every read script keeps
abbrev pub ReadIsSound : Type 0
ReadIsSound = (s : ScriptValue) → IsRead s → IsSound s

-- what a text denotes keeps it
abbrev pub DenotedIsSound : Type 0
DenotedIsSound = (text : List ℕ) (s : ScriptValue) → Denotes text s → IsSound s
