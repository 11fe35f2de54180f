-- The parts of a report, as an object has them.
use Rattle.std.specs.Prelude.{ℕ, List, [], ◌∷◌, Option}
use Rattle.fints_check_findings.specs.declared.finding.Finding.{Finding}
use Rattle.fints_check_findings.specs.declared.finding.Reached.{Reached}
use Rattle.fints_cli_scripts.specs.StepNames.{step_name}
use Rattle.fints_script.specs.Steps.{StepValue}
use Rattle.fints_cli_json.specs.declared.found.FindingPlace.TheVariants.{Step}
use Rattle.fints_cli_json.specs.declared.found.PlacedFinding.{PlacedFinding}
use Rattle.fints_cli_json.specs.declared.reports.StepFigures.{StepFigures}

-- the steps, each with the figures at its place
abbrev pub figures_of : List StepValue → List (Option Reached) → List StepFigures
figures_of (step ∷ steps) (reached ∷ figures) =
    record { name = step.name; reached = reached } ∷ figures_of steps figures
figures_of _ _ = []

-- a finding, at the step of this name
abbrev pub placed_at : List ℕ → Finding → PlacedFinding
placed_at name f = record { place = Step name; broken = record { rule = f.rule; segment = f.segment } }

-- a finding, at its step
abbrev pub placed_by : List StepValue → Finding → PlacedFinding
placed_by steps f = placed_at (step_name steps f.step) f
