-- What a certificate names, when it is closed, and what it promises. Steps and lines count from 1; branches too, and the default counts as the last.
use Rattle.std.specs.Prelude.{ℕ, ◌≡◌, ◌≤◌, ◌+◌, Option, Some, List, length, map}
use Rattle.std.specs.List.{AllByRecursion}
use Rattle.std.specs.Option.{option_and_then}
use Rattle.fints_script_cases.specs.Answers.{IsAnswer, IsOpen, target_of}
use Rattle.fints_script_cases.specs.declared.answers.Target.{Target}
use Rattle.fints_script_cases.specs.declared.answers.Target.TheVariants as targets
use Rattle.fints_script_cases.specs.declared.values.NamedValue.{NamedValue}
use Rattle.fints_rules_permissions.specs.Permits.{Granted}
use Rattle.fints_script.specs.Numbered.{numbered}
use Rattle.fints_script.specs.Plans.{Admits}
use Rattle.fints_script.specs.Scripts.{ScriptValue}
use Rattle.fints_script.specs.Steps.{StepValue}
use Rattle.fints_wire.specs.Choices.{longest_choice}
use Rattle.fints_wire.specs.Messages.{message_bytes}
use Rattle.fints_wire.specs.Runs.{Run}
use Rattle.fints_wire.specs.declared.dialogue.Sent.{Sent}
use Rattle.fints_check_reach.specs.Closed.{IsEnough}
use Rattle.fints_check_findings.specs.Breakable.{IsCleanStep}
use Rattle.fints_check_findings.specs.Releases.{IsUnreleased}
use Rattle.fints_check_findings.specs.declared.finding.Reached.{Reached}
use Rattle.fints_rules.specs.Rules.{FiguresBreak}
use Rattle.fints_rules.specs.declared.rule.Rule.{Rule}
use Rattle.fints_check_findings.specs.Figures.{reached_figures}
use Rattle.fints_check.specs.declared.certificate.Line.{Line}

-- ---- what it names

abbrev pub line_names : List Line → List (List ℕ)
line_names lines = map (λ (line : Line). line.name) lines

-- the figures of all lines, none where a step is named as unreached
abbrev pub line_figures : List Line → List (Option Reached)
line_figures lines = map (λ (line : Line). line.reached) lines

abbrev pub step_names : List StepValue → List (List ℕ)
step_names steps = map (λ (step : StepValue). step.name) steps

-- the figures of step n, if it is named as reached
abbrev pub figures_at : List Line → ℕ → Option Reached
figures_at lines n = option_and_then (λ (line : Line). line.reached) (numbered lines n)

-- step n is named as reached, with these figures
abbrev pub Names : List Line → ℕ → Reached → Type 0
Names lines n figures = figures_at lines n ≡ Some figures

-- ---- when it is closed

-- step n is named as reached, and its number is enough where its first message in a row has at most number `from`
pub record IsEntered (steps : List StepValue) (lines : List Line) (n from : ℕ) : Type 0 where
  pub step : StepValue
  pub at : numbered steps n ≡ Some step
  pub figures : Reached
  pub named : Names lines n figures
  pub covers : IsEnough step from figures.number

-- after messages of at most this number the target is a step that is named as reached, with a number that is enough, the same step or the end
abbrev pub GoesOn : List StepValue → List Line → ℕ → Target → Type 0
GoesOn steps lines number (targets.Step to) = IsEntered steps lines to (number + 1)
GoesOn steps lines number targets.Again = Unit {0}
GoesOn steps lines number targets.Stop = Unit {0}

-- the branch of the step, if some answer fires it, goes on in this way
abbrev pub BranchGoesOn : List StepValue → List Line → ℕ → StepValue → ℕ → Type 0
BranchGoesOn steps lines number step branch =
    IsOpen step.branches branch → GoesOn steps lines number (target_of step.branches step.otherwise branch)

-- the length of the step's longest message of this number
abbrev pub worst_len : ScriptValue → StepValue → ℕ → ℕ
worst_len script step number = length (message_bytes script step number (longest_choice script.fields))

-- what holds of a step that is named as reached: its figures break neither P2 nor P3, the size is enough,
-- what its messages hold breaks no rule, and each open branch goes on
pub record LineHolds (granted : Granted) (script : ScriptValue) (lines : List Line) (step : StepValue)
    (figures : Reached) : Type 0 where
  pub permitted : (r : Rule) → FiguresBreak granted.rows.bank (reached_figures figures) r → ⊥
  pub size : worst_len script step figures.number ≤ figures.size
  pub clean : IsCleanStep granted script step
  pub onward : (branch : ℕ) → BranchGoesOn script.steps lines figures.number step branch

-- what holds of each step that is named as reached
abbrev pub AreLinesTrue : Granted → ScriptValue → List Line → Type 0
AreLinesTrue granted script lines =
    (n : ℕ) (step : StepValue) (figures : Reached) → numbered script.steps n ≡ Some step
    → Names lines n figures → LineHolds granted script lines step figures

-- no step leaves an order unreleased of one that is named as reached
abbrev pub AreReleased : ScriptValue → List Line → Type 0
AreReleased script lines = (t s : ℕ) (figures : Reached) → Names lines t figures → IsUnreleased script t s → ⊥

-- one line for each step, in order, with its name; step 1 is reached, with a number that is enough; and what holds of each step that is named as reached
pub record IsClosedCertificate (granted : Granted) (script : ScriptValue) (lines : List Line) : Type 0 where
  pub names : line_names lines ≡ step_names script.steps
  pub first : IsEntered script.steps lines 1 1
  pub each : AreLinesTrue granted script lines
  pub released : AreReleased script lines

-- ---- what it promises

-- the message's step is named as reached, and the message stays within its figures
pub record StaysWithin (lines : List Line) (m : Sent) : Type 0 where
  pub figures : Reached
  pub named : Names lines m.step figures
  pub number : m.number ≤ figures.number
  pub size : length m.bytes ≤ figures.size

-- in each run, for all admitted values and all answers, each message stays within the figures of its step; so no run sends a step that is named as unreached
abbrev pub KeepsPromise : ScriptValue → List Line → Type 0
KeepsPromise script lines =
    (values : List NamedValue) (answers : List (List ℕ)) (sent : List Sent) → Admits script.fields values
    → AllByRecursion IsAnswer answers → Run script values answers sent
    → AllByRecursion (StaysWithin lines) sent
