-- The greatest number and size of a step's messages over all runs, and what P2 and P3 are asked of there.
use Rattle.std.specs.Prelude.{ℕ, ◌≡◌, ◌≤◌, List, length, Option, Some, None}
use Rattle.fints_script_cases.specs.declared.values.NamedValue.{NamedValue}
use Rattle.fints_rules.specs.declared.facts.Figures.{Figures}
use Rattle.fints_script.specs.Numbered.{numbered}
use Rattle.fints_script.specs.Plans.{Admits}
use Rattle.fints_script.specs.Scripts.{ScriptValue}
use Rattle.fints_wire.specs.Runs.{SendsLast}
use Rattle.fints_wire.specs.declared.dialogue.Sent.{Sent}
use Rattle.fints_check_findings.specs.declared.finding.Reached.{Reached}

-- some run, for admitted values, ends with this message of the step
pub record IsSentOf (script : ScriptValue) (n : ℕ) (m : Sent) : Type 0 where
  pub values : List NamedValue
  pub admitted : Admits script.fields values
  pub sends : SendsLast script values m
  pub of : m.step ≡ n

-- what P2 and P3 are asked of there
abbrev pub reached_figures : Reached → Figures
reached_figures r = record { number = r.number; size = r.size }

-- one message has both figures, and none exceeds them
pub record AreGreatestFigures (script : ScriptValue) (n : ℕ) (figures : Reached) : Type 0 where
  pub message : Sent
  pub sent : IsSentOf script n message
  pub number : message.number ≡ figures.number
  pub size : length message.bytes ≡ figures.size
  pub most : (m : Sent) → IsSentOf script n m → (m.number ≤ figures.number) × (length m.bytes ≤ figures.size)

-- none where no run sends the step
abbrev pub FiguresAre : ScriptValue → ℕ → Option Reached → Type 0
FiguresAre script n None = (m : Sent) → IsSentOf script n m → ⊥
FiguresAre script n (Some figures) = AreGreatestFigures script n figures

-- the figures of all steps, in order
pub record AreFigures (script : ScriptValue) (figures : List (Option Reached)) : Type 0 where
  pub long : length figures ≡ length script.steps
  pub each : (n : ℕ) (cell : Option Reached) → numbered figures n ≡ Some cell → FiguresAre script n cell
